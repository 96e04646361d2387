-- Read lists that can be read to their end.
use Rattle.std.specs.Prelude.{ℕ, Bool, ◌+◌, ◌-◌, ◌^◌, ◌<◌, nat_lt, IsTrue, List, ◌++◌, length, replicate, sum_by, Option, Some, None, IfSome}
use Rattle.rdm_num.specs.declared.head.Head.{Head}
use Rattle.rdm_num.specs.declared.head.Shape.{Shape}
use Rattle.rdm_num.specs.declared.head.Shape.TheVariants.{LongRead, Runt}
use Rattle.rdm_num.specs.declared.lists.IovEntry.{IovEntry}
use Rattle.rdm_pkt.specs.Grammar.{iov_fits}

-- how many bytes the ranges name together
abbrev pub read_length : List IovEntry → ℕ
read_length iov = sum_by (λ (e : IovEntry). e.length) iov

-- the list is one that packets carry
abbrev pub IsReadList : List IovEntry → Type 0
IsReadList iov = IsTrue (iov_fits iov (read_length iov)) × (read_length iov < 2 ^ 64)

-- the read list of a message of that shape, if it has one
unfoldable pub read_list_in : Shape → Option (List IovEntry)
read_list_in (LongRead send iov) = Some iov
read_list_in (Runt send iov runt) = Some iov
read_list_in _ = None

-- the head is one that packets carry: its read list, if it has one, is
abbrev pub HeadFits : Head → Type 0
HeadFits head = IfSome (read_list_in head.shape) IsReadList

-- a range ends within what 64 bits hold
abbrev pub has_end : IovEntry → Bool
has_end e = nat_lt (e.offset + e.length) (2 ^ 64)

-- a range with no bytes
abbrev pub no_range : IovEntry
no_range = record { offset = 0; length = 0; key = 0 }

-- four ranges, those after the given ones empty
abbrev pub padded_list : List IovEntry → List IovEntry
padded_list iov = iov ++ replicate (4 - length iov) no_range
