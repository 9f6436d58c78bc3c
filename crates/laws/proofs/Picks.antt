-- What `if◌then◌else◌` picks: a branch of code returns the case that its tests lead to. Assumes nothing.
use mathlib.Core.Path.{◌≡◌, refl}
use mathlib.Core.Bool.{Bool, true, false, ◌||◌, not}
use borrow.Author.Tests.{lt-ltb, le-ltb, eq-eqb, ne_eqb}
use Rattle.std.specs.Prelude.{if◌then◌else◌}

pub pick_then : {A : Type 0} (test : Bool) (a b x : A) → test ≡ true → x ≡ a → x ≡ (if test then a else b)
pick_then test a b x e h = rw e h

pub pick_else : {A : Type 0} (test : Bool) (a b x : A) → test ≡ false → x ≡ b → x ≡ (if test then a else b)
pick_else test a b x e h = rw e h

pub or_first : (p q : Bool) → p ≡ true → (p || q) ≡ true
or_first p q e = rw e

pub or_second : (p q : Bool) → q ≡ true → (p || q) ≡ true
or_second true q e = refl
or_second false q e = e

pub or_neither : (p q : Bool) → p ≡ false → q ≡ false → (p || q) ≡ false
or_neither p q e f = rw (e, f)

pub not_fails : (p : Bool) → p ≡ true → not p ≡ false
not_fails p e = rw e

pub not_holds : (p : Bool) → p ≡ false → not p ≡ true
not_holds p e = rw e

pub ruleset picks = (refl, pick_then, pick_else, or_first, or_second, or_neither, not_fails, not_holds, lt-ltb, le-ltb, eq-eqb, ne_eqb)
