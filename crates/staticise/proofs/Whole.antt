-- What the pass answers, by what was planned and written.
use Rattle.std.proofs.Common.{◌≡◌, ℕ, zero, suc, true≢false, nat_eq, ◌+◌, ◌<◌, ◌≤◌, Bool, true, false, List, [], ◌++◌, Some, None, refl, sym, ap, ◌∙◌, subst, arith}
use Rattle.std.specs.Prelude.{count_by, is_some, length, min, if◌then◌else◌}
use Rattle.program_model.specs.declared.pass.Origin.{Origin}
use Rattle.program_model.specs.declared.pass.Outside.{Outside}
use Rattle.program_model.specs.declared.program.Program.{Program}
use Rattle.class_defs.proofs.Positions.{number_of}
use Rattle.facts.specs.declared.facts.Facts.{Facts}
use Rattle.loose_methods.specs.Sieved.{IsSieved}
use Rattle.static_protos.specs.declared.growth.Growth.{Growth}
use Rattle.static_protos.specs.Growing.{IsGrowth, grown}
use Rattle.static_protos.specs.Tables.{Tables, tables_of}
use Rattle.staticise.specs.Judging.{behind_classes, judged}
use Rattle.staticise.specs.Left.{NoneLeft, receivers_in}
use Rattle.staticise.specs.Loosened.{count_given, extended, extended_so, names_with, IsLoosenedBy, IsStaticisedBy}
use Rattle.staticise.specs.Planned.{IsPlanned}
use Rattle.staticise.proofs.Falls.{falls}
use Rattle.staticise.proofs.Judged.{none_counted, none_left, sieved_is}

-- ---- tables

pub extended_by : (t : Tables) (p old new : Program) (g : Growth) → IsGrowth p t g → old.strings ≡ p.strings → old.protos ≡ p.protos
    → new ≡ extended_so g.strings.items g.protos.items g.given.items old → new ≡ extended t old
extended_by t p old new g grows strings protos e =
    e ∙ (ap (λ xs. record old { strings = xs; protos = old.protos ++ g.protos.items; methods = names_with g.given.items old.methods }) (ap (λ xs. xs ++ g.strings.items) strings ∙ sym grows.strings)
    ∙ (ap (λ xs. record old { strings = t.strings; protos = xs; methods = names_with g.given.items old.methods }) (ap (λ xs. xs ++ g.protos.items) protos ∙ sym grows.protos)
    ∙ ap (λ xs. record old { strings = t.strings; protos = t.protos; methods = names_with xs old.methods }) (sym grows.given)))

module _ (p : Program) (facts : Facts) (o : Outside) (admitted : List Bool) where
  -- ---- what is planned

  pub none_wanted : o.optimise ≡ false → count_given (judged p facts o admitted) ≡ 0
  none_wanted e = ap (λ b. count_given (if b then behind_classes p facts o admitted (tables_of p) 0 p.classes else tables_of p)) e ∙ none_counted p facts o admitted (length p.methods)

  growth_judged : (marks : List Bool) (g : Growth) → o.optimise ≡ true → IsSieved p facts o admitted marks → IsGrowth p (grown p marks) g → IsGrowth p (judged p facts o admitted) g
  growth_judged marks g e s a = subst (λ t. IsGrowth p t g) (sieved_is p facts o admitted marks s e) a

  -- nothing has a new proto
  pub none_planned : (marks : List Bool) (g : Growth) → o.optimise ≡ true → IsSieved p facts o admitted marks → IsGrowth p (grown p marks) g → nat_eq (count_by is_some g.given.items) 0 ≡ true → count_given (judged p facts o admitted) ≡ 0
  none_planned marks g e s a none = ap (count_by is_some) (growth_judged marks g e s a).given ∙ number_of (count_by is_some g.given.items) 0 none

  pub some_counted : (g : Growth) → nat_eq (count_by is_some g.given.items) 0 ≡ false → 0 < count_by is_some g.given.items
  some_counted g some = by (count_by is_some g.given.items) some
    where
      by : (n : ℕ) → nat_eq n 0 ≡ false → 0 < n
      by zero f = absurd (true≢false f)
      by (suc n) f = omega arith

  pub some_planned : (marks : List Bool) (g : Growth) → o.optimise ≡ true → IsSieved p facts o admitted marks → IsGrowth p (grown p marks) g → nat_eq (count_by is_some g.given.items) 0 ≡ false → IsPlanned p facts o admitted (Some g)
  some_planned marks g e s a some =
      let j = growth_judged marks g e s a in
      (j, subst (λ n. 0 < n) (ap (count_by is_some) (sym j.given)) (some_counted g some))

  -- ---- what is answered

  module _ (g : Growth) (q : Program) (count : ℕ) (origins : List (List Origin)) (planned : IsPlanned p facts o admitted (Some g)) (is : count ≡ count_by is_some g.given.items) (none : origins ≡ []) (made : IsLoosenedBy p (judged p facts o admitted) q) where
    counted : count ≡ count_given (judged p facts o admitted)
    counted = is ∙ ap (count_by is_some) (sym planned.0.given)

    pub some_staticised : IsStaticisedBy p facts o admitted (record { program = q; count = count; origins = origins })
    some_staticised = record {
      count = counted;
      same = λ z. absurd (let l = planned.1 in let e = counted in omega (arith, l, e, z));
      loosened = λ l. made;
      origins = none;
    }

    pub fewer : receivers_in q < receivers_in p
    fewer = falls p facts o admitted q planned.1 made

    pub some_falls : receivers_in q + min count 1 ≤ receivers_in p
    some_falls = least count
      where
        least : (n : ℕ) → receivers_in q + min n 1 ≤ receivers_in p
        least n = let f = fewer in grind arith

    pub some_changes : q ≡ p → count ≡ 0
    some_changes e = let f = fewer in let same : receivers_in q ≡ receivers_in p = ap receivers_in e in absurd (omega (arith, f, same))

  pub some_none : (g : Growth) (count : ℕ) → IsPlanned p facts o admitted (Some g) → count ≡ count_by is_some g.given.items → count ≡ 0 → ⊥
  some_none g count planned is z = let l = planned.1 in let e = is ∙ ap (count_by is_some) (sym planned.0.given) in omega (arith, l, e, z)

  module _ (origins : List (List Origin)) (planned : IsPlanned p facts o admitted None) (none : origins ≡ []) where
    pub none_staticised : IsStaticisedBy p facts o admitted (record { program = p; count = 0; origins = origins })
    none_staticised = record { count = sym planned; same = λ z. refl; loosened = λ l. absurd (omega (arith, l)); origins = none }

    pub nothing_left : NoneLeft p facts o admitted
    nothing_left = none_left p facts o admitted planned
