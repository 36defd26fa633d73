-- Origins that are noted.
use Rattle.std.proofs.Common.{◌≡◌, ℕ, ◌+◌, ◌<◌, ◌≤◌, ◌^◌, Bool, true, false, if◌then◌else◌, List, [], length, set, nat_lt, nat_eq, replicate, refl, sym, ap, ◌∙◌, arith, lt-ltb, le-ltb}
use Rattle.std.proofs.lemmas.List.{set_past}
use Rattle.program_model.specs.declared.pass.Origin.{Origin}
use Rattle.body_edit.specs.declared.fate.Fate.{Fate}
use Rattle.body_edit.specs.Fates.{fates_of, origins_of}
use Rattle.program_model.specs.Cells.{capped}
use Rattle.program_model.specs.declared.program.Program.{Program}
use Rattle.thin_pass.specs.Plans.{noted, all_changes, all_origins, program_origins}
use Rattle.std.proofs.lemmas.Bool.{eq-eqb, ne_eqb}

if_true : {A : Type 0} (t : Bool) (x y : A) → t ≡ true → x ≡ (if t then x else y)
if_true t x y e = rw e refl

if_false : {A : Type 0} (t : Bool) (x y : A) → t ≡ false → y ≡ (if t then x else y)
if_false t x y e = rw e refl

pub noted_set : (k : ℕ) (fs : List Fate) (os : List (List Origin)) (v : List Origin) → length fs ≤ 4294967295 → v ≡ origins_of k (fates_of fs) → set os k v ≡ noted k fs os
noted_set k fs os v le e = ap (set os k) e ∙ if_true (nat_lt (length fs) (2 ^ 32)) (set os k (origins_of k (fates_of fs))) os (lt-ltb (length fs) (2 ^ 32) (omega (arith, le)))

pub noted_long : (k : ℕ) (fs : List Fate) (os : List (List Origin)) → 4294967295 < length fs → os ≡ noted k fs os
noted_long k fs os lt = if_false (nat_lt (length fs) (2 ^ 32)) (set os k (origins_of k (fates_of fs))) os (le-ltb (length fs) (2 ^ 32) (omega (arith, lt)))

pub noted_past : (k : ℕ) (fs : List Fate) (os : List (List Origin)) → length os ≤ k → os ≡ noted k fs os
noted_past k fs os le = by (nat_lt (length fs) (2 ^ 32))
  where
    by : (t : Bool) → os ≡ (if t then set os k (origins_of k (fates_of fs)) else os)
    by true = sym (set_past os k (origins_of k (fates_of fs)) le)
    by false = refl

none_capped : (n count : ℕ) → count ≡ capped n → count ≡ 0 → nat_eq n 0 ≡ true
none_capped n count e z = eq-eqb n 0 (omega (arith, e, z))

some_capped : (n count : ℕ) → count ≡ capped n → (count ≡ 0 → ⊥) → nat_eq n 0 ≡ false
some_capped n count e z = ne_eqb n 0 (λ h. z (omega (arith, e, h)))

pub none_changed : (plan : List (List (List Fate))) (p : Program) (count : ℕ) (os : List (List Origin)) → os ≡ [] → count ≡ capped (all_changes plan) → count ≡ 0 → os ≡ program_origins plan p
none_changed plan p count os s e z = s ∙ if_true (nat_eq (all_changes plan) 0) [] (all_origins p.classes plan (replicate (length p.methods) [])) (none_capped (all_changes plan) count e z)

pub some_changed : (plan : List (List (List Fate))) (p : Program) (count : ℕ) (os : List (List Origin)) → os ≡ all_origins p.classes plan (replicate (length p.methods) []) → count ≡ capped (all_changes plan) → (count ≡ 0 → ⊥) → os ≡ program_origins plan p
some_changed plan p count os s e z = s ∙ if_false (nat_eq (all_changes plan) 0) [] (all_origins p.classes plan (replicate (length p.methods) [])) (some_capped (all_changes plan) count e z)
