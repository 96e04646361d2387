-- Instructions as a reader keeps them, whose regions have no content yet.
use Rattle.std.specs.Prelude.{◌≡◌, ℕ, ◌-◌, ◌^◌, min, Bool, ◌==◌, List, map, replicate}
use Rattle.std.specs.List.{list_any}
use Rattle.std.specs.Ordering.{nat_cmp}
use Rattle.std.specs.BTreeMap.{is_at}
use Rattle.rdm_model.specs.declared.job.Instr.{Instr}
use Rattle.rdm_model.specs.declared.job.Instr.TheVariants.{Reg}
use Rattle.rdm_model.specs.declared.job.Rank.{Rank}
use Rattle.rdm_script.specs.declared.content.Content.{Content}
use Rattle.rdm_script.specs.declared.content.Content.TheVariants.{Text, Hex, Zero, Fill}
use Rattle.rdm_script.specs.declared.draft.Draft.{Draft}
use Rattle.rdm_script.specs.declared.draft.Draft.TheVariants.{Made, Region}
use Rattle.rdm_script.specs.declared.ranks.RankDraft.{RankDraft}
use Rattle.rdm_script.specs.Contents.{hex_bytes, fill_bytes}
use Rattle.rdm_script.specs.Programs.{is_open, opened}

-- the content that is made
abbrev pub made_content : Content → List ℕ
made_content (Text t) = t.now
made_content (Hex t) = hex_bytes t.now
made_content (Zero count) = replicate count 0
made_content (Fill count seed) = fill_bytes seed 0 count

-- the instruction that is made
abbrev pub made : Draft → Instr
made (Made i) = i
made (Region content) = Reg (made_content content)

-- the rank that is made
abbrev pub made_rank : RankDraft → Rank
made_rank r = record { features = r.features; limits = r.limits; ops = map made r.drafts.items }

-- what is kept of the lives that these instructions, the newest first, opened and closed
abbrev pub KeepsLives : List Instr → Bool → List ℕ → Type 0
KeepsLives before is_open_now keys =
    (is_open_now ≡ is_open before) × ((c : ℕ) → list_any (is_at (nat_cmp c)) keys ≡ list_any (λ o. o == c) (opened before))

-- a sum that stands still at the last number of 64 bits
abbrev pub capped : ℕ → ℕ
capped n = min n (2 ^ 64 - 1)
