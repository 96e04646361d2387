-- A `&` to it holds nothing. Assumes `Logic`.
use base.Fraction.{full_share}
use denote.Memory.{part_at}
use denote.SharingLaws.{nothing_shr_laws}
use denote.Struct.Lending.{Lends-nothing}
use Rattle.rdm_mr.specs.contracts.block.Owner as Owner
use Rattle.rdm_mr.proofs.block.Owner.TheLaw.Statement.{statement}

pub shares : statement
shares = record {
  shr_laws = λ value block at. nothing_shr_laws;
  shares = λ M 𝓤 𝓛 value κ tokens block at. Lends-nothing 𝓛 (part_at Owner.the_written full_share value block at) (Owner.the_written).lives κ tokens;
}
