-- Bytes put into a buffer. Assumes nothing.
use Rattle.std.specs.Prelude.{ℕ, ◌+◌, List, ◌++◌, ◌≡◌, length, take, drop}

-- from the place `at` on the bytes took the place of as many; `next` is the place behind them
pub record Puts (bytes before : List ℕ) (at : ℕ) (after : List ℕ) (next : ℕ) : Type 0 where
  pub place : next ≡ at + length bytes
  pub holds : after ≡ take at before ++ bytes ++ drop next before
