-- The bytes put so far, and those of what is left, are those of the number. Assumes nothing.
use Rattle.std.proofs.Common.{◌≡◌, ◌-◌, ◌++◌, take}
use Rattle.problem.specs.Table.{bytes_of}
use Rattle.octets.proofs.put_number.Given as goal

abbrev pub invariant-loop-byte : goal.invariant-loop-byte
invariant-loop-byte l = take l.byte-index l.byte-items ++ bytes_of (l.n - l.byte-index) l.left ≡ bytes_of l.n l.x
