-- The words of instructions, refusals, pools and classes.
use Rattle.std.specs.Prelude.{ℕ, List, codes}
use Rattle.rdm_model.specs.declared.answer.OpName.{OpName}
use Rattle.rdm_model.specs.declared.answer.OpName.TheVariants as op
use Rattle.rdm_model.specs.declared.answer.Why.{Why}
use Rattle.rdm_model.specs.declared.answer.Why.TheVariants as why
use Rattle.rdm_model.specs.declared.answer.PoolName.{PoolName}
use Rattle.rdm_model.specs.declared.answer.PoolName.TheVariants as pool
use Rattle.rdm_model.specs.declared.answer.Class.{Class}
use Rattle.rdm_model.specs.declared.answer.Class.TheVariants as class

-- the word that a script has for an instruction
abbrev pub op_word : OpName → List ℕ
op_word op.Open = codes "open"
op_word op.Insert = codes "insert"
op_word op.Reg = codes "reg"
op_word op.Send = codes "send"
op_word op.Recv = codes "recv"
op_word op.Cancel = codes "cancel"
op_word op.Note = codes "note"
op_word op.Await = codes "await"
op_word op.Wait = codes "wait"
op_word op.Close = codes "close"

-- why an instruction was refused
abbrev pub why_word : Why → List ℕ
why_word why.NoRegion = codes "NoRegion"
why_word why.Range = codes "Range"
why_word why.NoEntry = codes "NoEntry"
why_word why.Busy = codes "Busy"
why_word why.Numbers = codes "Numbers"
why_word why.NoConfirm = codes "NoConfirm"
why_word why.Superseded = codes "Superseded"
why_word why.NotPosted = codes "NotPosted"

-- a pool
abbrev pub pool_word : PoolName → List ℕ
pool_word pool.Tx = codes "Tx"
pool_word pool.Rx = codes "Rx"
pool_word pool.Cq = codes "Cq"

-- the class of a datagram that was dropped
abbrev pub class_word : Class → List ℕ
class_word class.ToOther = codes "ToOther"
class_word class.FromOther = codes "FromOther"
class_word class.Malformed = codes "Malformed"
class_word class.Unknown = codes "Unknown"
class_word class.BadKey = codes "BadKey"
class_word class.NoOp = codes "NoOp"
class_word class.Mismatch = codes "Mismatch"
class_word class.Overlap = codes "Overlap"
