-- The contracts of the entries, as they stand in src/lib.rt, are what the page of promises speaks of: `CalledAround`, of the entry that takes no closed set `Called`, and of the one
-- whose pairs are apart `CalledApart`. A contract that says something else is refused here. Assumes nothing.
use Prim.Native.Nat.{ℕ}
use contract.Lifetimes.{Lfts}
use borrow.Fn.Kinds.{Dens, ended_of}
use denote.Triple.Clauses.{AtExit}
use Rattle.problem.specs.Reply.{request}
use Rattle.problem.specs.Calls.{CalledAround, CalledApart, Called}
use Rattle.entry.proofs.feshangul_plan.Kinds as plan
use Rattle.entry.proofs.feshangul_plan.Reads as plan-reads
use Rattle.entry.proofs.feshangul_plan_around.Kinds as around
use Rattle.entry.proofs.feshangul_plan_around.Reads as around-reads
use Rattle.entry.proofs.feshangul_plan_apart.Kinds as apart
use Rattle.entry.proofs.feshangul_plan_apart.Reads as apart-reads

-- of a call with these arguments: the table, the request, what the buffer held and holds
pub contract_called : (κs : Lfts 2) (args : Dens κs plan.ps) (number : ℕ) (exit : AtExit (ended_of 2 plan.ps plan.r) κs) → plan-reads.Post κs args number exit
    → Called args.0.now (request args.1.1.0 args.1.1.1.0 args.1.1.1.1.0 args.1.1.1.1.1.0) args.1.0.now number exit.1.0.now
contract_called κs args number exit c = c

-- and with a closed set behind the table
pub contract_called_around : (κs : Lfts 3) (args : Dens κs around.ps) (number : ℕ) (exit : AtExit (ended_of 3 around.ps around.r) κs) → around-reads.Post κs args number exit
    → CalledAround args.0.now args.1.0.now (request args.1.1.1.0 args.1.1.1.1.0 args.1.1.1.1.1.0 args.1.1.1.1.1.1.0) args.1.1.0.now number exit.1.1.0.now
contract_called_around κs args number exit c = c

pub contract_called_apart : (κs : Lfts 3) (args : Dens κs apart.ps) (number : ℕ) (exit : AtExit (ended_of 3 apart.ps apart.r) κs) → apart-reads.Post κs args number exit
    → CalledApart args.0.now args.1.0.now (request args.1.1.1.0 args.1.1.1.1.0 args.1.1.1.1.1.0 args.1.1.1.1.1.1.0) args.1.1.0.now number exit.1.1.0.now
contract_called_apart κs args number exit c = c
