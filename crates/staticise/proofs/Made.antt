-- Each method that is made static was loose behind the tables of its turn, and its new proto stands in the tables.
use Rattle.std.proofs.Common.{◌≡◌, ◌⊎◌, inl, inr, ℕ, zero, suc, ◌+◌, Bool, true, false, true≢false, List, [], ◌∷◌, Option, Some, None, refl, sym, ap, ◌∙◌, subst, arith}
use Rattle.std.specs.Prelude.{is_some, length, replicate, slice_get, slice_set, if◌then◌else◌}
use Rattle.lemmas.proofs.Options.{none_some, some_same}
use Rattle.program_model.specs.declared.pass.Outside.{Outside}
use Rattle.program_model.specs.declared.program.Class.{Class}
use Rattle.program_model.specs.declared.program.Method.{Method}
use Rattle.program_model.specs.declared.program.Program.{Program}
use Rattle.facts.specs.declared.facts.Facts.{Facts}
use Rattle.static_protos.specs.Tables.{Tables, tables_of, wanted, with_new, place_or, proto_at}
use Rattle.static_protos.specs.Growing.{AreBehind}
use Rattle.static_protos.proofs.Behind.{IsGiven, behind_itself, behind_then, behind_new, proto_given, given_stays}
use Rattle.staticise.specs.Judging.{behind_method, behind_methods, behind_classes, judged}
use Rattle.staticise.specs.Loosened.{given_at, is_given}
use Rattle.staticise.specs.Made.{WasLoose, IsMade, AreMade}
use Rattle.staticise.proofs.Judged.{Step, Stays, Gives, step}

-- the number that is set, or one that was
set_given : (xs : List (Option ℕ)) (x v n w : ℕ) → given_at (slice_set xs x (Some v)) n ≡ Some w → (given_at xs n ≡ Some w) ⊎ ((x ≡ n) × (v ≡ w))
set_given [] x v n w e = inl e
set_given (o ∷ xs) zero v zero w e = inr (refl, some_same v w e)
set_given (o ∷ xs) zero v (suc n) w e = inl e
set_given (o ∷ xs) (suc x) v zero w e = inl e
set_given (o ∷ xs) (suc x) v (suc n) w e = elim (set_given xs x v n w e) [ inl f ↦ inl f | inr s ↦ inr (ap suc s.0, s.1) ]

none_given : (size n v : ℕ) → given_at (replicate size None) n ≡ Some v → ⊥
none_given zero n v e = none_some v e
none_given (suc size) zero v e = none_some v e
none_given (suc size) (suc n) v e = none_given size n v e

module _ (p : Program) (facts : Facts) (o : Outside) (admitted : List Bool) where
  abbrev Tabled : Tables → Type 0
  Tabled t = AreMade p facts o admitted t

  later : (t u : Tables) (n v : ℕ) → AreBehind t u → IsMade p facts o admitted t n v → IsMade p facts o admitted u n v
  later t u n v a m =
      let w = wanted p m.was.class m.was.method m.was.name m.was.proto in
      let g = given_stays t u w v a (record { proto = m.new; there = m.there; result = m.result; parameters = m.parameters }) in
      record { was = m.was; new = g.proto; there = g.there; result = g.result; parameters = g.parameters }

  method_made : (t : Tables) (place i : ℕ) (k : Class) (m : Method) → slice_get p.classes place ≡ Some k → slice_get k.methods i ≡ Some m → Tabled t → Tabled (behind_method p facts o admitted t place k m)
  method_made t place i k m e f a = by (step p facts o admitted t place k m)
    where
      by : Step p facts o admitted t place k m → Tabled (behind_method p facts o admitted t place k m)
      by (Stays g s) = subst Tabled (sym s) a
      by (Gives q proto g x h s) = subst Tabled (sym s) (record {
        behind = behind_then (tables_of p) t (with_new t (wanted p k m q proto)) a.behind (behind_new t (wanted p k m q proto));
        each = λ n v y. elim (set_given t.given m.name (place_or (length t.protos) (proto_at t (wanted p k m q proto))) n v y) [
          | inl z ↦ later t (with_new t (wanted p k m q proto)) n v (behind_new t (wanted p k m q proto)) (a.each n v z)
          | inr z ↦ made n v z.0 z.1
        ];
      })
        where
          given : IsGiven (with_new t (wanted p k m q proto)).protos (wanted p k m q proto) (place_or (length t.protos) (proto_at t (wanted p k m q proto)))
          given = proto_given t (wanted p k m q proto)

          made : (n v : ℕ) → m.name ≡ n → place_or (length t.protos) (proto_at t (wanted p k m q proto)) ≡ v → IsMade p facts o admitted (with_new t (wanted p k m q proto)) n v
          made n v same is = record {
            was = record { place = place; class = k; at = i; method = m; name = q; proto = proto; tables = t; is_class = e; is_method = f; is_number = same; is_name = ap (slice_get p.methods) (sym same) ∙ g; is_proto = x; behind = a.behind; holds = h };
            new = given.proto;
            there = ap (slice_get (with_new t (wanted p k m q proto)).protos) (sym is) ∙ given.there;
            result = given.result;
            parameters = given.parameters;
          }

  methods_made : (t : Tables) (place start : ℕ) (k : Class) (ms : List Method) → slice_get p.classes place ≡ Some k → ((i : ℕ) (m : Method) → slice_get ms i ≡ Some m → slice_get k.methods (i + start) ≡ Some m) → Tabled t
      → Tabled (behind_methods p facts o admitted t place k ms)
  methods_made t place start k [] e h a = a
  methods_made t place start k (m ∷ ms) e h a = methods_made (behind_method p facts o admitted t place k m) place (suc start) k ms e
      (λ i x f. ap (slice_get k.methods) (let z : i + suc start ≡ suc i + start = omega arith in z) ∙ h (suc i) x f)
      (method_made t place start k m e (ap (slice_get k.methods) (let z : start ≡ 0 + start = omega arith in z) ∙ h 0 m refl) a)

  classes_made : (t : Tables) (place : ℕ) (ks : List Class) → ((c : ℕ) (k : Class) → slice_get ks c ≡ Some k → slice_get p.classes (c + place) ≡ Some k) → Tabled t → Tabled (behind_classes p facts o admitted t place ks)
  classes_made t place [] h a = a
  classes_made t place (k ∷ ks) h a =
      let here : slice_get p.classes place ≡ Some k = ap (slice_get p.classes) (let z : place ≡ 0 + place = omega arith in z) ∙ h 0 k refl in
      classes_made (behind_methods p facts o admitted t place k k.methods) (suc place) ks (λ c x f. ap (slice_get p.classes) (let z : c + suc place ≡ suc c + place = omega arith in z) ∙ h (suc c) x f)
      (methods_made t place 0 k k.methods here (λ i m f. ap (slice_get k.methods) (let z : i + 0 ≡ i = omega arith in z) ∙ f) a)

  first : Tabled (tables_of p)
  first = record { each = λ n v e. absurd (none_given (length p.methods) n v e); behind = behind_itself (tables_of p) }

  all_tabled : Tabled (judged p facts o admitted)
  all_tabled = by o.optimise
    where
      by : (b : Bool) → Tabled (if b then behind_classes p facts o admitted (tables_of p) 0 p.classes else tables_of p)
      by true = classes_made (tables_of p) 0 p.classes (λ c k f. ap (slice_get p.classes) (let z : c + 0 ≡ c = omega arith in z) ∙ f) first
      by false = first

  pub all_made : AreMade p facts o admitted (judged p facts o admitted)
  all_made = all_tabled

  -- the method of a number that is made static
  pub made_of : (n : ℕ) → is_given (judged p facts o admitted).given n ≡ true → WasLoose p facts o admitted n
  made_of n e = by (given_at (judged p facts o admitted).given n) refl e
    where
      by : (x : Option ℕ) → given_at (judged p facts o admitted).given n ≡ x → is_some x ≡ true → WasLoose p facts o admitted n
      by None f g = absurd (true≢false (sym g))
      by (Some v) f g = (all_made.each n v f).was
