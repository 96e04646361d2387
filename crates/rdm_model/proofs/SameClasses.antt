-- By two accounts that agree, a datagram has the same class.
use Rattle.std.proofs.Common.{◌≡◌, refl}
use Rattle.rdm_wire.specs.declared.Datagram.{Datagram}
use Rattle.rdm_wire.specs.declared.Body.{Body}
use Rattle.rdm_wire.specs.declared.Body.TheVariants.{Note, Between}
use Rattle.rdm_model.specs.Beginnings.{Messages}
use Rattle.rdm_model.specs.Scenes.{Scene}
use Rattle.rdm_model.specs.Classes.{body_lives_class, lives_class}
use Rattle.rdm_model.proofs.SameAnswers.{by_account}

-- the class by lives of what a datagram has in it asks no account
body_lives_same : (s : Scene) (ns : Messages) (d : Datagram) (body : Body) → body_lives_class s d body ≡ body_lives_class (by_account s ns) d body
unfolding body_lives_class
body_lives_same s ns d (Note note) = refl
body_lives_same s ns d (Between from to load) = refl

-- the class by lives asks no account
pub lives_class_same : (s : Scene) (ns : Messages) (d : Datagram) → lives_class s d ≡ lives_class (by_account s ns) d
unfolding lives_class
lives_class_same s ns d = body_lives_same s ns d d.body
