-- The names that the walks cite.
pub use Rattle.std.proofs.Common.{◌≡◌, ℕ, ◌+◌, ◌-◌, ◌*◌, ◌^◌, ◌<◌, ◌≤◌, List, [], ◌∷◌, ◌++◌, length, take, refl, sym, ap, ◌∙◌, subst, arith, w8, w64}
pub use Rattle.std.proofs.raw_atomic.Walks.{proved, proved_at}
pub use Rattle.std.proofs.alloc.Calls.{Goes-blank}
pub use Rattle.std_alloc.proofs.Pairs.{pair_val, pair_of}
pub use lib.ListN.{drop as drop_l}
pub use seplogic.Ra.Ura.{Ura}
pub use base.Fraction.{full_share}
pub use base.Logic.{ent, sep, emp, id⊢}
pub use base.Fml.{Fml, ftrue, flft}
pub use mir.Val.{Val, vint, vstruct, vnil}
pub use contract.Monad.{fact, fact_i}
pub use contract.Running.{tables}
pub use types.Logic.{Logic, sem}
pub use types.Kit.{‵, raw, ◌⊛◌, some, later, prop, ◌$◌, ◌∵◌, !, qed, by, done, move, keep, drop, use0, use1, use2, split, split3, join, fsplit, fjoin, feq_i, feq_l, flt_i, flt_l, pick, await, fpick, fpack, regoal, rewrite, suffices}
pub use types.Part.{agg}
pub use types.Run.{enter, of_opd, no_more, and_then, returns}
pub use types.ByLocal.{alloc_all, pass_all, free_all, look_at, get, sets, lands_as}
pub use denote.Builtin.{u8, usize}
pub use denote.Exit.{yes}
pub use denote.Plain.{uint_vals, uint_Tells}
pub use denote.RattleType.{RattleType, owns, Valss}
pub use denote.RawPtr.{Ptr, RawPtr, block_ptr, null_ptr, ◌+ₚ◌, lies_at}
pub use denote.Signature.{plain, types_at}
pub use denote.Steps.{nothing, heard, only}
pub use denote.Triple.Call.{calls_at}
pub use denote.Triple.Clauses.{lasts}
pub use denote.Triple.Entry.{alive}
pub use denote.Triple.Spec.{triple_of}
pub use denote.Triple.Table.{framed}
pub use denote.Triple.Walked.{Stays, walk_of, says, stay_dropped, Goes-dropped, ends_at}
