-- The keys of a map and those of its members.
use Rattle.std.proofs.Common.{◌≡◌, List, [], ◌∷◌, map, string_bytes, String, Global, refl, ap, ◌&&◌}
use Rattle.std.specs.List.{list_all}
use Rattle.serde_json.specs.declared.value.Value.{Value}
use Rattle.serde_json.specs.View.{members_view}
use Rattle.rdm_json.specs.declared.value.Form.{Form}
use Rattle.rdm_json.specs.Values.{has_key, members_known}

-- the keys of the entries are those of the members
pub members_known-view : (form : Form) (es : List (String Global × Value))
    → list_all (λ k. has_key form (string_bytes k)) (map (λ e. e.0) es) ≡ members_known form (members_view es)
members_known-view form [] = refl
members_known-view form (e ∷ es) = ap (λ b. has_key form (string_bytes e.0) && b) (members_known-view form es)
