-- Where the initialisers of the classes are.
use Rattle.std.proofs.Common.{◌≡◌, ℕ, zero, suc, ◌-◌, ◌^◌, ◌<◌, ◌≤◌, Bool, true, false, List, [], ◌∷◌, map, take, length, Option, Some, None, refl, sym, ap, ◌∙◌, arith}
use Rattle.std.specs.Prelude.{cond, slice_get, position}
use Rattle.std.specs.Option.{option_map}
use Rattle.std.proofs.lemmas.Option.{slice_get-map}
use Rattle.program_model.specs.declared.program.Method.{Method}
use Rattle.program_model.specs.declared.program.Class.{Class}
use Rattle.program_model.specs.declared.program.Program.{Program}
use Rattle.program_model.specs.ProgramRules.{is_well_formed}
use Rattle.class_defs.specs.Members.{types_are}
use Rattle.class_defs.specs.Starts.{is_initialiser, runs, running, initialiser_of, initialiser_place}
use Rattle.class_defs.proofs.Positions.{position_step}
use Rattle.hierarchy.specs.Tables.{known, read_at}
use Rattle.hierarchy.specs.Starting.{place_or_none}
use Rattle.hierarchy.proofs.Keyed.{got_short}
use Rattle.hierarchy.proofs.Placed.{known_small}
use Rattle.hierarchy.proofs.Short.{few_members}

no_more : (o : Option ℕ) → option_map suc o ≡ None → o ≡ None
no_more None e = refl
no_more (Some i) e = cc

-- the first place of which the test is true
pub first_at : {X : Type 0} (t : X → Bool) (xs : List X) (i : ℕ) (x : X) → position t (take i xs) ≡ None → slice_get xs i ≡ Some x → t x ≡ true → position t xs ≡ Some i
first_at t [] i x h e y = cc
first_at t (z ∷ zs) zero x h e y = position_step t z zs ∙ ap (λ b. cond b (Some 0) (option_map suc (position t zs))) (ap t (let s : z ≡ x = cc in s) ∙ y)
first_at t (z ∷ zs) (suc i) x h e y = by_test (t z) refl (sym (position_step t z (take i zs)) ∙ h) (λ g. first_at t zs i x g e y)
  where
    by_test : (b : Bool) → t z ≡ b → cond (t z) (Some 0) (option_map suc (position t (take i zs))) ≡ None → (position t (take i zs) ≡ None → position t zs ≡ Some i) → position t (z ∷ zs) ≡ Some (suc i)
    by_test true f g more = let s : Some 0 ≡ None = sym (ap (λ b. cond b (Some 0) (option_map suc (position t (take i zs)))) f) ∙ g in cc
    by_test false f g more =
        position_step t z zs ∙ ap (λ b. cond b (Some 0) (option_map suc (position t zs))) f
        ∙ ap (option_map suc) (more (no_more (position t (take i zs)) (sym (ap (λ b. cond b (Some 0) (option_map suc (position t (take i zs)))) f) ∙ g)))

pub runs_at : (p : Program) (ms : List Method) (i : ℕ) (m : Method) → position (is_initialiser p) (take i ms) ≡ None → slice_get ms i ≡ Some m → is_initialiser p m ≡ true → cond (runs (Some m)) (Some i) None ≡ running ms (position (is_initialiser p) ms)
runs_at p ms i m h e t = ap (λ o. cond (runs o) (Some i) None) (sym e) ∙ sym (ap (running ms) (first_at (is_initialiser p) ms i m h e t))

-- ---- the table of them

ran : (ms : List Method) (o : Option ℕ) (i : ℕ) → running ms o ≡ Some i → i < length ms
ran ms None i e = cc
ran ms (Some j) i e = by_entry (slice_get ms j) refl e
  where
    by_entry : (o : Option Method) → slice_get ms j ≡ o → cond (runs o) (Some j) None ≡ Some i → i < length ms
    by_entry None f g = cc
    by_entry (Some m) f g = by_test (runs (Some m)) g
      where
        by_test : (b : Bool) → cond b (Some j) None ≡ Some i → i < length ms
        by_test true k = let s : j ≡ i = cc in let l = got_short ms j m f in omega (arith, s, l)
        by_test false k = cc

known_place : (o : Option ℕ) → ((i : ℕ) → o ≡ Some i → i < 2 ^ 32 - 1) → known (Some (place_or_none o)) ≡ o
known_place None h = refl
known_place (Some i) h = known_small i (h i refl)

pub starts_are : (p : Program) (table : List ℕ) → is_well_formed p ≡ true → table ≡ map (λ c. place_or_none (initialiser_of p (Some c))) p.classes → (c : ℕ) → read_at table c ≡ initialiser_place p c
starts_are p table h is c = ap (λ t. read_at t c) is ∙ ap known (slice_get-map (λ k. place_or_none (initialiser_of p (Some k))) p.classes c) ∙ by_class (slice_get p.classes c) refl
  where
    by_class : (o : Option Class) → slice_get p.classes c ≡ o → known (option_map (λ k. place_or_none (initialiser_of p (Some k))) o) ≡ initialiser_of p o
    by_class None e = refl
    by_class (Some k) e = known_place (initialiser_of p (Some k)) (λ i f. let l = ran k.methods (position (is_initialiser p) k.methods) i f in let few = few_members p h c k e in omega (arith, l, few))

pub something_taken : (p : Program) (ks : List ℕ) → 1 ≤ length ks → false ≡ types_are p ks []
something_taken p [] le = absurd (omega (arith, le))
something_taken p (k ∷ ks) le = refl

pub few_of : (p : Program) → is_well_formed p ≡ true → (i : ℕ) (c : Class) → slice_get p.classes i ≡ Some c → length c.methods < 2 ^ 32
few_of p h i c e = let few = few_members p h i c e in omega (arith, few)
