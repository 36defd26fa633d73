-- How readings that find what stands there are put together.
use Rattle.std.proofs.Common.{◌≡◌, ℕ, zero, suc, ◌+◌, ◌≤◌, ◌<◌, Bool, true, false, cond, List, [], ◌∷◌, length, Result, Ok, Err, refl, sym, ap, subst, ◌∙◌, arith, ◌⊎◌, inl, inr}
use Rattle.std.proofs.lemmas.Bool.{cases_lt}
use Rattle.std.proofs.lemmas.List.{nil_from_length}
use Rattle.dex_base.specs.Reading.{◌>>=◌, raise, each}
use Rattle.dex_base.specs.Decides.{Decides, Each}

abbrev good : {A F : Type 0} → A → Result A F
good x = Ok x

abbrev bad : {A F : Type 0} → F → Result A F
bad e = Err e

pub ok_is : {A F : Type 0} (x y : A) → good {F = F} x ≡ good {F = F} y → x ≡ y
ok_is x y e = cc

pub err_is : {A F : Type 0} (d e : F) → bad {A = A} d ≡ bad {A = A} e → d ≡ e
err_is d e h = cc

pub not_both : {A F : Type 0} (d : F) (x : A) → bad {A = A} d ≡ good x → ⊥
not_both d x h = absurd cc

-- the same in other words
pub same : {Y F : Type 0} {Is Is' : Y → Type 0} {Has Has' : F → Type 0} (read : Result Y F) → Decides Is Has read
    → ((y : Y) → Is y → Is' y) → ((y : Y) → Is' y → Is y) → ((e : F) → Has e → Has' e) → ((e : F) → Has' e → Has e) → Decides Is' Has' read
same read d to from bad_to bad_from = record {
  found = λ y h. to y (d.found y h);
  again = λ y h. d.again y (from y h);
  fault = λ e h. bad_to e (d.fault e h);
  clean = λ y e h b. d.clean y e h (bad_from e b);
}

-- the same with faults that can't stand beside what is found
pub wider : {Y F : Type 0} {Is Is' : Y → Type 0} {Has Has' : F → Type 0} (read : Result Y F) → Decides Is Has read
    → ((y : Y) → Is y → Is' y) → ((y : Y) → Is' y → Is y) → ((e : F) → Has e → Has' e) → ((y : Y) (e : F) → Is' y → Has' e → ⊥) → Decides Is' Has' read
wider read d to from bad_to apart = record {
  found = λ y h. to y (d.found y h);
  again = λ y h. d.again y (from y h);
  fault = λ e h. bad_to e (d.fault e h);
  clean = λ y e h b. apart y e (to y (d.found y h)) b;
}

pub pure : {Y F : Type 0} (v : Y) → Decides {F = F} (λ y. y ≡ v) (λ e. ⊥) (Ok v)
pure v = record {
  found = λ y h. sym (ok_is v y h);
  again = λ y h. ap Ok (sym h);
  fault = λ e h. not_both e v (sym h);
  clean = λ y e h b. b;
}

pub guard : {Y F : Type 0} (b : Bool) (v : Y) (d : F) → Decides (λ y. (b ≡ true) × (y ≡ v)) (λ e. (b ≡ false) × (e ≡ d)) (cond b (Ok v) (Err d))
guard true v d = record {
  found = λ y h. (refl, sym (ok_is v y h));
  again = λ y h. ap Ok (sym h.1);
  fault = λ e h. absurd (not_both e v (sym h));
  clean = λ y e h b. absurd cc;
}
guard false v d = record {
  found = λ y h. absurd (not_both d y h);
  again = λ y h. absurd cc;
  fault = λ e h. (refl, sym (err_is d e h));
  clean = λ y e h b. not_both d y h;
}

-- one reading behind another
pub then : {X Y F : Type 0} {Is : X → Type 0} {Has : F → Type 0} {Is' : X → Y → Type 0} {Has' : X → F → Type 0} (read : Result X F) (f : X → Result Y F)
    → Decides Is Has read → ((x : X) → Is x → Decides (Is' x) (Has' x) (f x))
    → Decides (λ y. (x : X) × Is x × Is' x y) (λ e. Has e ⊎ ((x : X) × Is x × Has' x e)) (read >>= f)
then (Ok x) f d g =
    let s = g x (d.found x refl) in
    record {
      found = λ y h. (x, d.found x refl, s.found y h);
      again = λ y p. ap f (ok_is x p.0 (d.again p.0 p.1)) ∙ (g p.0 p.1).again y p.2;
      fault = λ e h. inr (x, d.found x refl, s.fault e h);
      clean = λ y e h b. elim b [
        | inl a ↦ d.clean x e refl a
        | inr p ↦ (g p.0 p.1).clean y e (ap f (sym (ok_is x p.0 (d.again p.0 p.1))) ∙ h) p.2
      ];
    }
then {Has = Has} (Err k) f d g = record {
  found = λ y h. absurd (not_both k y h);
  again = λ y p. absurd (not_both k p.0 (d.again p.0 p.1));
  fault = λ e h. inl (subst Has (err_is k e h) (d.fault k refl));
  clean = λ y e h b. not_both k y h;
}

first : (from i : ℕ) → i ≤ from → from ≤ i → i ≡ from
first from i a b = omega (arith, a, b)

entries_apart : {X : Type 0} (Is : ℕ → X → Type 0) (from n : ℕ) (ys : List X) → (length ys ≡ suc n) × Each Is from ys → (x : X) × Is from x × ((xs : List X) × ((length xs ≡ n) × Each Is (suc from) xs) × (ys ≡ x ∷ xs))
entries_apart Is from n [] h = absurd cc
entries_apart Is from n (y ∷ ys) h = (y, h.1.0, (ys, (omega (arith, h.0), h.1.1), refl))

entries_clean : {X F : Type 0} (Is : ℕ → X → Type 0) (Has : ℕ → F → Type 0) (f : ℕ → Result X F) → ((i : ℕ) → Decides (Is i) (Has i) (f i)) → (from n : ℕ)
    → Decides (λ xs. (length xs ≡ n) × Each Is (suc from) xs) (λ e. (i : ℕ) × (suc from ≤ i) × (i < suc from + n) × Has i e) (each f (suc from) n)
    → (ys : List X) (e : F) → (length ys ≡ suc n) × Each Is from ys → ((i : ℕ) × (from ≤ i) × (i < from + suc n) × Has i e) → ⊥
entries_clean Is Has f d from n rest [] e h p = absurd cc
entries_clean Is Has f d from n rest (y ∷ ys) e h p =
    elim (cases_lt from p.0) [
      | inl lt ↦ rest.clean ys e (rest.again ys (omega (arith, h.0), h.1.1)) (p.0, omega (arith, lt), omega (arith, p.2), p.3)
      | inr le ↦ (d from).clean y e ((d from).again y h.1.0) (subst (λ i. Has i e) (first from p.0 le p.1) p.3)
    ]

-- entries of a table
pub decides_each : {X F : Type 0} (Is : ℕ → X → Type 0) (Has : ℕ → F → Type 0) (f : ℕ → Result X F) → ((i : ℕ) → Decides (Is i) (Has i) (f i)) → (from n : ℕ)
    → Decides (λ xs. (length xs ≡ n) × Each Is from xs) (λ e. (i : ℕ) × (from ≤ i) × (i < from + n) × Has i e) (each f from n)
decides_each Is Has f d from zero = record {
  found = λ xs h. subst (λ ys. (length ys ≡ 0) × Each Is from ys) (ok_is [] xs h) (refl, tt);
  again = λ xs h. ap Ok (sym (nil_from_length xs h.0));
  fault = λ e h. absurd (not_both e [] (sym h));
  clean = λ xs e h p. omega (arith, p.1, p.2);
}
decides_each Is Has f d from (suc n) =
    let rest = decides_each Is Has f d (suc from) n in
    let whole = then (f from) (λ x. each f (suc from) n >>= λ xs. Ok (x ∷ xs)) (d from) (λ x h. then (each f (suc from) n) (λ xs. Ok (x ∷ xs)) rest (λ xs g. pure (x ∷ xs))) in
    wider (each f from (suc n)) whole
    (λ ys p. subst (λ zs. (length zs ≡ suc n) × Each Is from zs) (sym p.2.2) (ap suc p.2.1.0, (p.1, p.2.1.1)))
    (entries_apart Is from n)
    (λ e b. elim b [ inl h ↦ (from, omega arith, omega arith, h) | inr p ↦ elim p.2 [ inl q ↦ (q.0, omega (arith, q.1), omega (arith, q.2), q.3) | inr q ↦ absurd q.2 ] ])
    (entries_clean Is Has f d from n rest)

-- the fault in the words of a layer above
pub raised : {Y F G : Type 0} {Is : Y → Type 0} {Has : F → Type 0} (up : F → G) (read : Result Y F) → Decides Is Has read → Decides Is (λ g. (e : F) × Has e × (g ≡ up e)) (raise up read)
raised {Is = Is} up (Ok x) d = record {
  found = λ y h. subst Is (ok_is x y h) (d.found x refl);
  again = λ y p. ap Ok (ok_is x y (d.again y p));
  fault = λ g h. absurd (not_both g x (sym h));
  clean = λ y g h p. d.clean x p.0 refl p.1;
}
raised up (Err k) d = record {
  found = λ y h. absurd (not_both (up k) y h);
  again = λ y p. absurd (not_both k y (d.again y p));
  fault = λ g h. (k, d.fault k refl, sym (err_is (up k) g h));
  clean = λ y g h p. not_both (up k) y h;
}
