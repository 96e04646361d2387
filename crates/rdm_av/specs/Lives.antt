-- The current life of each port, and the lives that were superseded.
use Rattle.std.specs.Prelude.{ℕ, ◌+◌, ◌-◌, Bool, if◌then◌else◌, Option, Some, None, option_map, Result, Ok, Err, refl}
use Rattle.std.specs.Ordering.{nat_cmp, ordering_then}
use Rattle.std.specs.declared.cmp.Ordering.{Ordering}
use Rattle.std.specs.Coded.{Coded, code_by, coded×, coded_ℕ}
use Rattle.std.specs.FinMap as map
use Rattle.std.specs.FinSet as set
use Rattle.std.specs.HashMap.{HashMap}
use Rattle.std.specs.HashSet.{HashSet}
use Rattle.rdm_num.specs.Lives.{same_life, life}
use Rattle.rdm_num.specs.declared.numbers.PortNo.{PortNo}
use Rattle.rdm_num.specs.declared.numbers.Connid.{Connid}
use Rattle.rdm_num.specs.declared.numbers.Life.{Life}
use Rattle.rdm_av.specs.declared.Inserted.{Inserted}
use Rattle.rdm_av.specs.declared.Inserted.TheVariants.{Inserted as New, Same, Supersedes}
use Rattle.rdm_av.specs.declared.InsertRefused.{InsertRefused}
use Rattle.rdm_av.specs.declared.InsertRefused.TheVariants.{Superseded}
use Rattle.rdm_av.specs.declared.WasSuperseded.{WasSuperseded}
use Rattle.rdm_av.specs.declared.Origin.{Origin}
use Rattle.rdm_av.specs.declared.Origin.TheVariants.{Current, FirstSeen, FromOther, Unknown}

-- by port number, then by identifier
abbrev pub life_order : ℕ × ℕ → ℕ × ℕ → Ordering
life_order a b = ordering_then (nat_cmp a.0 b.0) (nat_cmp a.1 b.1)

-- the identifier of the current life of each port that has one, the port and identifier of each superseded life, and
-- how many more lives may become current without memory
pub record Lives : Type 0 where
  pub current : map.FinMap nat_cmp Connid
  pub superseded : set.FinSet life_order
  pub room : ℕ

-- lives are stored as the map, the set and the room
abbrev pub lives_code : Coded Lives
lives_code =
    code_by
    (map.FinMap nat_cmp Connid × (set.FinSet life_order × ℕ))
    (coded×
    (map.code coded_ℕ (code_by ℕ coded_ℕ (λ c. c.0) (λ n. record { 0 = n }) (λ _. refl)))
    (coded× (set.code (coded× coded_ℕ coded_ℕ)) coded_ℕ))
    (λ l. (l.current, (l.superseded, l.room)))
    (λ p. record { current = p.0; superseded = p.1.0; room = p.1.1 })
    (λ _. refl)

-- the current lives that a hash map keeps
abbrev pub kept_current : {S : Type 0} → HashMap ℕ Connid S → map.FinMap nat_cmp Connid
kept_current m = map.from_entries m.entries

-- the superseded lives that a hash set keeps
abbrev pub kept_superseded : {S : Type 0} → HashSet (ℕ × ℕ) S → set.FinSet life_order
kept_superseded s = set.from_list s.keys

-- before any life came
abbrev pub no_lives : Lives
no_lives = record { current = map.empty; superseded = set.empty; room = 0 }

-- one more life may become current without memory
abbrev pub with_room : Lives → Lives
with_room lives = record lives { room = lives.room + 1 }

-- a reservation is spent
abbrev pub with_spent : Lives → Lives
with_spent lives = record lives { room = lives.room - 1 }

-- the current life of a port
abbrev pub current_life : Lives → PortNo → Option Life
current_life lives port = option_map (life port) (map.get lives.current port.0)

-- the life was superseded
abbrev pub is_superseded : Lives → Life → Bool
is_superseded lives l = set.contains lives.superseded (l.port.0, l.connid.0)

-- the life becomes the current one of its port
abbrev pub with_current : Lives → Life → Lives
with_current lives l = record lives { current = map.insert lives.current l.port.0 l.connid }

-- the life becomes a superseded one
abbrev pub with_superseded : Lives → Life → Lives
with_superseded lives l = record lives { superseded = set.insert lives.superseded (l.port.0, l.connid.0) }

-- what an insert of a life that is not superseded answers, by the current life of its port
unfoldable pub inserted_beside : Option Life → Life → Inserted
inserted_beside None l = New
inserted_beside (Some old) l = if same_life old l then Same else Supersedes old

-- what an insert answers, with that error for a superseded life
abbrev pub answer_or : {E : Type 0} → E → Lives → Life → Result Inserted E
answer_or why lives l = if is_superseded lives l then Err why else Ok (inserted_beside (current_life lives l.port) l)

-- what an insert answers
abbrev pub insert_answer : Lives → Life → Result Inserted InsertRefused
insert_answer = answer_or Superseded

-- what an insert with a reservation answers
abbrev pub reserved_answer : Lives → Life → Result Inserted WasSuperseded
reserved_answer = answer_or (record {})

-- the lives after an insert with that answer, but for a reservation
unfoldable pub after_insert : {E : Type 0} → Lives → Life → Result Inserted E → Lives
after_insert lives l (Ok New) = with_current lives l
after_insert lives l (Ok Same) = lives
after_insert lives l (Ok (Supersedes old)) = with_current (with_superseded lives old) l
after_insert lives l (Err why) = lives

-- what a datagram's source is, by the current life of its port and whether a raw address is there
unfoldable pub origin : Option Life → Life → Bool → Origin
origin None l has_raw = if has_raw then FirstSeen else Unknown
origin (Some now) l has_raw = if same_life now l then Current else FromOther
