-- How what is held is stored.
use Rattle.std.specs.Prelude.{◌≡◌, ◌⊎◌, ℕ, Bool, List, Option, refl}
use Rattle.std.specs.Coded.{Coded, code_by, coded×, coded⊎, coded_ℕ, coded_bool, coded_list, coded_option}
use Rattle.std.proofs.Common.{inl, inr}
use base.Stored.{coded_unit}
use Rattle.std.specs.FinMap as map
use Rattle.rdm_num.specs.declared.numbers.OpId.{OpId}
use Rattle.rdm_num.specs.declared.lists.IovEntry.{IovEntry}
use Rattle.rdm_num.specs.declared.head.Head.{Head}
use Rattle.rdm_num.specs.declared.head.Shape.{Shape}
use Rattle.rdm_num.specs.declared.head.Shape.TheVariants.{Eager, Medium, LongCts, LongRead, Runt}
use Rattle.rdm_gaps.specs.Places.{Missing, missing_code}
use Rattle.rdm_window.specs.Message.{Message}
use Rattle.rdm_window.specs.Early.{Held, message_order}

-- the number of an operation as a number
abbrev pub op_code : Coded OpId
op_code = code_by ℕ coded_ℕ (λ o. o.0) (λ n. record { 0 = n }) (λ _. refl)

-- a range of a read list as its three numbers
abbrev pub entry_code : Coded IovEntry
entry_code =
    code_by
    (ℕ × (ℕ × ℕ))
    (coded× coded_ℕ (coded× coded_ℕ coded_ℕ))
    (λ e. (e.offset, (e.length, e.key)))
    (λ p. record { offset = p.0; length = p.1.0; key = p.1.1 })
    (λ _. refl)

-- the parts of a shape, by cases
abbrev pub ShapeParts : Type 0
ShapeParts = Unit {0} ⊎ (Unit {0} ⊎ ((OpId × ℕ) ⊎ ((OpId × List IovEntry) ⊎ (OpId × (List IovEntry × ℕ)))))

-- the parts of a shape
abbrev pub shape_parts : Shape → ShapeParts
shape_parts Eager = inl tt
shape_parts Medium = inr (inl tt)
shape_parts (LongCts send credits) = inr (inr (inl (send, credits)))
shape_parts (LongRead send iov) = inr (inr (inr (inl (send, iov))))
shape_parts (Runt send iov runt) = inr (inr (inr (inr (send, (iov, runt)))))

-- the shape of those parts
abbrev pub shape_of_parts : ShapeParts → Shape
shape_of_parts (inl u) = Eager
shape_of_parts (inr (inl u)) = Medium
shape_of_parts (inr (inr (inl p))) = LongCts p.0 p.1
shape_of_parts (inr (inr (inr (inl p)))) = LongRead p.0 p.1
shape_of_parts (inr (inr (inr (inr p)))) = Runt p.0 p.1.0 p.1.1

-- its parts give a shape back
pub parts_of_shape : (s : Shape) → shape_of_parts (shape_parts s) ≡ s
parts_of_shape Eager = refl
parts_of_shape Medium = refl
parts_of_shape (LongCts send credits) = refl
parts_of_shape (LongRead send iov) = refl
parts_of_shape (Runt send iov runt) = refl

-- a shape as its parts
abbrev pub shape_code : Coded Shape
shape_code =
    code_by
    ShapeParts
    (coded⊎ coded_unit (coded⊎ coded_unit (coded⊎ (coded× op_code coded_ℕ) (coded⊎ (coded× op_code (coded_list entry_code)) (coded× op_code (coded× (coded_list entry_code) coded_ℕ))))))
    shape_parts
    shape_of_parts
    parts_of_shape

-- a head as the tuple of its fields
abbrev pub head_code : Coded Head
head_code =
    code_by
    (Option ℕ × (Bool × (Option ℕ × (ℕ × Shape))))
    (coded× (coded_option coded_ℕ) (coded× coded_bool (coded× (coded_option coded_ℕ) (coded× coded_ℕ shape_code))))
    (λ h. (h.tag, (h.confirm, (h.cq_data, (h.length, h.shape)))))
    (λ p. record { tag = p.0; confirm = p.1.0; cq_data = p.1.1.0; length = p.1.1.1.0; shape = p.1.1.1.1 })
    (λ _. refl)

-- a message as the tuple of its fields
abbrev pub message_code : Coded Message
message_code =
    code_by
    (Head × (ℕ × (List ℕ × Missing)))
    (coded× head_code (coded× coded_ℕ (coded× (coded_list coded_ℕ) missing_code)))
    (λ m. (m.head, (m.first_part, (m.bytes, m.gaps))))
    (λ p. record { head = p.0; first_part = p.1.0; bytes = p.1.1.0; gaps = p.1.1.1 })
    (λ _. refl)

-- what is held as the pair of its fields
abbrev pub held_code : Coded Held
held_code =
    code_by
    (ℕ × map.FinMap message_order Message)
    (coded× coded_ℕ (map.code (coded× (coded× coded_ℕ coded_ℕ) coded_ℕ) message_code))
    (λ h. (h.size, h.messages))
    (λ p. record { size = p.0; messages = p.1 })
    (λ _. refl)
