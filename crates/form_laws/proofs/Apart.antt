-- Whether known registers that are read later have numbers of their own, as a test.
use Rattle.std.proofs.Common.{◌≡◌, ℕ, ◌<◌, Bool, true, false, length, Option, Some, None, refl, sym, ap, ◌∙◌, eqb-true, eq-eqb}
use Rattle.std.specs.Prelude.{◌&&◌, ◌||◌, not, nat_eq}
use Rattle.pass_defs.specs.Registers.{Kinds, kind_at}
use Rattle.pass_defs.specs.Typed.{each}
use Rattle.pass_defs.proofs.Writes.{left_true, right_true, both_true}
use Rattle.form_laws.proofs.Onward.{clash}
use Rattle.form_laws.proofs.Typings.{each_at}
use Rattle.form_laws.proofs.Held.{is_known}
use Rattle.form_laws.proofs.Selecting.{known_below, Unique}
use Rattle.form_laws.proofs.Sequences.{all_each}

module _ (new : ℕ → ℕ) (live : ℕ → Bool) where
  module _ (a : Kinds) where
    -- known, and read later
    abbrev counts : ℕ → Bool
    counts o = live o && is_known (kind_at a.registers o)

    -- two that count don't have one number
    abbrev differs : ℕ → ℕ → Bool
    differs o q = not ((counts o && counts q) && nat_eq (new o) (new q)) || nat_eq o q

    abbrev all_differ : Bool
    all_differ = each (length a.registers) (λ o. each (length a.registers) (differs o))

    if_not : (v w : Bool) → (v ≡ true → w ≡ true) → (not v || w) ≡ true
    if_not true w h = h refl
    if_not false w h = refl

    then_is : (v w : Bool) → (not v || w) ≡ true → v ≡ true → w ≡ true
    then_is true w h e = h
    then_is false w h e = clash false e refl

    all_unique : Unique new live a.registers → all_differ ≡ true
    all_unique unique = all_each (length a.registers) (λ o. each (length a.registers) (differs o)) (λ o. all_each (length a.registers) (differs o) (λ q. if_not ((counts o && counts q) && nat_eq (new o) (new q)) (nat_eq o q) (λ h. one o q h)))
      where
        one : (o q : ℕ) → ((counts o && counts q) && nat_eq (new o) (new q)) ≡ true → nat_eq o q ≡ true
        one o q h =
            let both = left_true (counts o && counts q) (nat_eq (new o) (new q)) h in
            let first = left_true (counts o) (counts q) both in
            let second = right_true (counts o) (counts q) both in
            eq-eqb o q (unique o q (left_true (live o) (is_known (kind_at a.registers o)) first) (left_true (live q) (is_known (kind_at a.registers q)) second)
            (right_true (live o) (is_known (kind_at a.registers o)) first) (right_true (live q) (is_known (kind_at a.registers q)) second) (eqb-true (new o) (new q) (right_true (counts o && counts q) (nat_eq (new o) (new q)) h)))

    unique_all : all_differ ≡ true → Unique new live a.registers
    unique_all e o q lo lq ko kq same =
        let at = each_at (length a.registers) (differs o) q (known_below a.registers q kq) (each_at (length a.registers) (λ o. each (length a.registers) (differs o)) o (known_below a.registers o ko) e) in
        eqb-true o q (then_is ((counts o && counts q) && nat_eq (new o) (new q)) (nat_eq o q) at
        (both_true (counts o && counts q) (nat_eq (new o) (new q)) (both_true (counts o) (counts q) (both_true (live o) (is_known (kind_at a.registers o)) lo ko) (both_true (live q) (is_known (kind_at a.registers q)) lq kq)) (eq-eqb (new o) (new q) same)))

  -- so it is in a state, which has so many registers
  abbrev pub all_apart : ℕ → Option Kinds → Bool
  all_apart size None = false
  all_apart size (Some a) = nat_eq (length a.registers) size && all_differ a

  module _ (size : ℕ) (a : Kinds) where
    pub apart_all : length a.registers ≡ size → Unique new live a.registers → all_apart size (Some a) ≡ true
    apart_all long unique = both_true (nat_eq (length a.registers) size) (all_differ a) (eq-eqb (length a.registers) size long) (all_unique a unique)

    pub all_are_apart : all_apart size (Some a) ≡ true → (length a.registers ≡ size) × Unique new live a.registers
    all_are_apart e = (eqb-true (length a.registers) size (left_true (nat_eq (length a.registers) size) (all_differ a) e), unique_all a (right_true (nat_eq (length a.registers) size) (all_differ a) e))
