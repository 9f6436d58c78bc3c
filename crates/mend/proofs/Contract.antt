-- The contract of the entry, as it stands in src/lib.rt, is what the page of promises speaks of: `Mends`. A contract that says something else is refused here. Assumes nothing.
use contract.Lifetimes.{Lfts}
use borrow.Fn.Kinds.{Dens, ended_of}
use denote.Triple.Clauses.{AtExit}
use Rattle.problem.specs.Mending.{Mends}
use Rattle.mend.specs.declared.Mended.{Mended}
use Rattle.mend.proofs.feshangul_mend.Kinds.{ps, r}
use Rattle.mend.proofs.feshangul_mend.Reads.{Post}

-- of a call with these arguments: the input, what the two outputs held and hold
pub contract_mends : (κs : Lfts 3) (args : Dens κs ps) (given : Mended) (exit : AtExit (ended_of 3 ps r) κs) → Post κs args given exit
    → Mends args.0.now args.1.0.now args.1.1.0.now given.number given.table_len given.list_len exit.1.0.now exit.1.1.0.now
contract_mends κs args given exit c = c
