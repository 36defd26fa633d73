-- The choice of methods is a plan, of candidates alone, and no kept method is chosen.
use Rattle.std.proofs.Common.{◌≡◌, ℕ, zero, suc, Bool, true, false, List, [], ◌∷◌, Option, Some, None, nat_eq, refl, sym, ap, ◌∙◌, subst}
use Rattle.std.specs.Prelude.{is_some, slice_get, Contains}
use Rattle.std.specs.List.{list_any}
use Rattle.lemmas.proofs.Bools.{clash}
use Rattle.lemmas.proofs.Options.{some_same}
use Rattle.program_model.specs.MemberRules.{is_static}
use Rattle.program_model.specs.declared.pass.Outside.{Outside}
use Rattle.program_model.specs.declared.pools.MethodName.{MethodName}
use Rattle.program_model.specs.declared.pools.Proto.{Proto}
use Rattle.program_model.specs.declared.program.Class.{Class}
use Rattle.program_model.specs.declared.program.Method.{Method}
use Rattle.program_model.specs.declared.program.Program.{Program}
use Rattle.class_defs.specs.ClassGraph.{IsTwice}
use Rattle.class_defs.proofs.Positions.{number_test}
use Rattle.class_defs.proofs.WellFormed.{Sound}
use Rattle.facts.specs.declared.facts.Facts.{Facts}
use Rattle.run_laws.specs.Holds.{Each}
use Rattle.removal_law.specs.Left.{In, here, there}
use Rattle.removal_law.proofs.Outward.{any_here}
use Rattle.static_law.specs.Candidates.{IsCandidate}
use Rattle.static_law.specs.Edited.{IsOwn, IsPlanned, LetsClass, target_of}
use Rattle.static_law.proofs.Classes.{contains_at}
use Rattle.static_law.proofs.Programs.{in_from}
use Rattle.static_law.proofs.Targets.{targets_planned}
use Rattle.loose_methods.specs.Candidates.{is_kept}
use Rattle.static_protos.specs.Tables.{Tables}
use Rattle.staticise.specs.Judging.{judged}
use Rattle.loose_methods.specs.Mentioned.{class_methods, is_mentioned, mentioned}
use Rattle.loose_methods.specs.Loose.{names_it}
use Rattle.static_kept.specs.Choice.{given_by}
use Rattle.static_kept.proofs.MadeStatic.{AreChosen, IsChosen, IsMethod}
use Rattle.static_kept.proofs.Mentions.{class_marks, each_in, each_in_all, field_marks, method_marks}
use Rattle.static_kept.proofs.Own.{MayBe, may_be, names_itself, same_method}

-- what all entries have each has that a list contains
in_at : {A : Type 0} (xs : List A) (n : ℕ) (x : A) → slice_get xs n ≡ Some x → In x xs
in_at xs n x e = in_from xs x (contains_at xs n x e)

module _ (p : Program) (facts : Facts) (o : Outside) (admitted : List Bool) (s : Sound p) (twice : (class : ℕ) → IsTwice p class → ⊥) (chosen : AreChosen p facts o admitted (judged p facts o admitted)) where
  abbrev pub given : ℕ → Option ℕ
  given n = given_by p facts o admitted n

  abbrev pub Chosen : ℕ → ℕ → Type 0
  Chosen n k = IsChosen p facts o admitted (judged p facts o admitted) n k

  -- a number that is given a proto
  pub picked : (n : ℕ) → is_some (given n) ≡ true → (k : ℕ) × Chosen n k
  picked n e = by (given n) refl e
    where
      by : (x : Option ℕ) → given n ≡ x → is_some x ≡ true → (k : ℕ) × Chosen n k
      by (Some k) i e = (k, chosen.given n k i)
      by None i e = clash false e refl

  -- what is known of it, by its number
  pub may : (n k : ℕ) (c : Chosen n k) → MayBe p facts o admitted c.stands.place c.stands.class c.stands.entry c.stands.method
  may n k c = may_be p facts o admitted c.stands.place c.stands.class c.stands.entry c.stands.method c.may

  -- a number that is no chosen one gets none
  unchosen : (n : ℕ) → ((k : ℕ) → Chosen n k → ⊥) → given n ≡ None
  unchosen n h = by (given n) refl
    where
      by : (x : Option ℕ) → given n ≡ x → given n ≡ None
      by None i = i
      by (Some k) i = absurd (h k (chosen.given n k i))

  pub own : (n : ℕ) → is_some (given n) ≡ true → IsOwn p n
  own n e = let m = (picked n e).1.stands in record { class_place = m.place; class = m.class; place = m.at; method = m.method; is_class = m.is_class; is_method = m.is_method; number = m.number }

  -- ---- annotations and first values

  unmentioned : (n : ℕ) → In n (mentioned p) → given n ≡ None
  unmentioned n i = unchosen n (λ k c. clash (is_mentioned p n) (any_here (names_it p n) n (mentioned p) i (names_itself p s twice n c.stands)) (ap (is_mentioned p) (sym c.stands.number) ∙ (may n k c).unnamed))

  quiet_classes : Each (λ n. given n ≡ None) (mentioned p)
  quiet_classes = each_in_all (λ n. given n ≡ None) (mentioned p) unmentioned

  pub lets : (class : ℕ) (c : Class) → slice_get p.classes class ≡ Some c → LetsClass given c
  lets class c e = record {
    marks = class_marks (λ n. given n ≡ None) c quiet;
    fields = field_marks (λ n. given n ≡ None) c quiet;
    methods = method_marks (λ n. given n ≡ None) c quiet;
    receivers = receivers;
  }
    where
      quiet : Each (λ n. given n ≡ None) (class_methods c)
      quiet = each_in (λ n. given n ≡ None) class_methods c p.classes (in_at p.classes class c e) quiet_classes

      receivers : (m : Method) → Contains c.methods m → is_some (given m.name) ≡ true → is_static m.flags ≡ false
      receivers m i g =
          let x = picked m.name g in
          let j = place m c.methods (in_from c.methods m i) in
          ap (λ (m : Method). is_static m.flags) (same_method p s twice m.name x.1.stands class c j.0 m e j.1 refl) ∙ (may m.name x.0 x.1).receiver
        where
          place : (m : Method) (ms : List Method) → In m ms → (j : ℕ) × (slice_get ms j ≡ Some m)
          place m [] i = elim i [ ]
          place m (y ∷ ms) (here zs) = (0, refl)
          place m (y ∷ ms) (there z zs i) = let r = place m zs i in (suc r.0, r.1)

  pub planned_by : IsPlanned p given (target_of p given)
  planned_by = targets_planned given p s twice own lets

  -- ---- kept methods

  pub free : Each (λ n. given n ≡ None) o.methods
  free = each_in_all (λ n. given n ≡ None) o.methods (λ n i. unchosen n (λ k c. clash (is_kept o n) (any_here (nat_eq n) n o.methods i (number_test n n refl)) (ap (is_kept o) (sym c.stands.number) ∙ (may n k c).free)))

  -- ---- candidates

  abbrev pub candidate : (n k : ℕ) → given n ≡ Some k → IsCandidate p o n
  candidate n k e =
      let c : Chosen n k = chosen.given n k e in
      let m : IsMethod p n = c.stands in
      let x = may n k c in
      record {
        own = record { class_place = m.place; class = m.class; place = m.at; method = m.method; is_class = m.is_class; is_method = m.is_method; number = m.number };
        entry = m.entry;
        is_entry = m.is_entry;
        coded = x.coded;
        receiver = x.receiver;
        plain = x.plain;
        free = ap (is_kept o) (sym m.number) ∙ x.free;
        in_class = x.in_class;
        trivial = x.trivial;
        new = λ r other y z a b d f g h. c.free r other y a b d (g ∙ ap (λ (w : Proto). w.result) (some_same z m.old (sym f ∙ m.is_old))) (h ∙ ap (λ (w : Proto). m.class.name ∷ w.parameters) (some_same z m.old (sym f ∙ m.is_old)));
      }
