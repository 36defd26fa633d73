-- What of a program stays when the methods of a plan are made static.
use Rattle.std.proofs.Common.{◌≡◌, ℕ, zero, suc, Bool, true, false, List, [], ◌∷◌, map, length, Option, Some, None, refl, sym, ap, ◌∙◌, subst, arith}
use Rattle.std.specs.Prelude.{is_some, slice_get, slice_index_or, Contains}
use Rattle.std.specs.Option.{option_map}
use Rattle.std.specs.List.Sorted.{IsPermutation}
use Rattle.std.proofs.lemmas.List.Sorted.{Contains-permutation, IsPermutation-sym}
use Rattle.lemmas.proofs.Bools.{clash}
use Rattle.program_model.specs.declared.body.Body.{Body}
use Rattle.program_model.specs.declared.pass.Outside.{Outside}
use Rattle.program_model.specs.declared.pools.MethodName.{MethodName}
use Rattle.program_model.specs.declared.program.Class.{Class}
use Rattle.program_model.specs.declared.program.Method.{Method}
use Rattle.program_model.specs.declared.program.Program.{Program}
use Rattle.facts.specs.declared.facts.Facts.{Facts}
use Rattle.removal_bridge.proofs.Listed.{Image, image}
use Rattle.static_law.proofs.Classes.{contains_at}
use Rattle.static_protos.specs.Tables.{Tables}
use Rattle.staticise.specs.Called.{IsUntouched}
use Rattle.staticise.specs.Judging.{judged}
use Rattle.staticise.specs.Loosened.{IsLoosenedBy, IsLoosenedClass, body_loosened, code_loosened, flags_loosened, given_at, is_given, marks_loosened, method_loosened, name_with, names_with}
use Rattle.static_kept.specs.Choice.{IsPlan, given_by}
use Rattle.static_kept.specs.Stays.{ClassStaysBut, MethodStaysBut, SameFrame, Stands, StaysBut}
use Rattle.static_kept.proofs.Edited.{names_at}
use Rattle.static_kept.proofs.MadeStatic.{chosen}

-- as many names have new protos as there were
names_long : (os : List (Option ℕ)) (qs : List MethodName) → length (names_with os qs) ≡ length qs
names_long [] qs = refl
names_long (o ∷ os) [] = refl
names_long (o ∷ os) (q ∷ qs) = let h : length (names_with os qs) ≡ length qs = names_long os qs in omega (arith, h)

module _ (p : Program) (g : List (Option ℕ)) (admitted : List Bool) where
  abbrev given : ℕ → Option ℕ
  given n = given_at g n

  frame_same : (o : Option Body) → SameFrame o (code_loosened p g o)
  frame_same None = tt
  frame_same (Some b) = (refl, refl)

  -- one method
  method_so : (m : Method) → (slice_index_or admitted m.name false ≡ false → code_loosened p g m.body ≡ m.body) → MethodStaysBut given admitted m (method_loosened p g m)
  method_so m untouched = at (is_given g m.name) refl
    where
      edited : Bool → Method
      edited b = let n : Method = elim b as (λ b. Method) [ true ↦ record m { flags = flags_loosened m.flags; parameter_marks = marks_loosened m.parameter_marks } | false ↦ m ] in record n { body = code_loosened p g n.body }

      at : (b : Bool) → b ≡ is_given g m.name → MethodStaysBut given admitted m (edited b)
      at true e = record { rest = refl; plain = λ f. clash (is_given g m.name) (sym e) f; turned = λ f. (refl, refl); refused = untouched; frame = frame_same m.body }
      at false e = record { rest = refl; plain = λ f. refl; turned = λ f. clash (is_given g m.name) f (sym e); refused = untouched; frame = frame_same m.body }

  class_so : (c d : Class) → IsLoosenedClass p g c d → ((at : ℕ) (m : Method) → slice_get c.methods at ≡ Some m → slice_index_or admitted m.name false ≡ false → code_loosened p g m.body ≡ m.body) → ClassStaysBut given admitted c d
  class_so c d x untouched = record {
    rest = x.rest;
    methods = λ n i.
        let back = Contains-permutation d.methods (map (method_loosened p g) c.methods) n (IsPermutation-sym (map (method_loosened p g) c.methods) d.methods x.methods) (contains_at d.methods i.0 n i.1) in
        let m : Image (method_loosened p g) c.methods n = image (method_loosened p g) c.methods n back in
        (m.entry, ((m.place, m.is_entry), subst (MethodStaysBut given admitted m.entry) m.is (method_so m.entry (untouched m.place m.entry m.is_entry))));
  }

module _ (p q : Program) (facts : Facts) (o : Outside) (admitted : List Bool) (plan : IsPlan p facts o admitted) (untouched : IsUntouched p admitted (judged p facts o admitted)) (x : IsLoosenedBy p (judged p facts o admitted) q) where
  abbrev t : Tables
  t = judged p facts o admitted

  pub stays_but : StaysBut (given_by p facts o admitted) admitted p q
  stays_but = record {
    rest = x.rest ∙ same;
    strings = λ n u e. ap (λ (z : Program). slice_get z.strings n) x.rest ∙ (chosen p facts o admitted plan).strings n u e;
    protos = λ n u e. ap (λ (z : Program). slice_get z.protos n) x.rest ∙ (chosen p facts o admitted plan).protos n u e;
    long = ap (λ (z : Program). length z.methods) x.rest ∙ names_long t.given p.methods;
    names = λ n m e f. ap (λ (z : Program). slice_get z.methods n) x.rest ∙ (names_at t.given p.methods n ∙ (ap (option_map (λ m. name_with m (given_by p facts o admitted n))) e ∙ unnamed n m (given_by p facts o admitted n) f));
    as_many = x.classes.long;
    classes = λ place c e. let r = x.classes.each place c e in (r.0, (r.1, class_so p t.given admitted c r.0 r.2 (λ at m i. untouched place at c m e i)));
  }
    where
      same : record p { strings = t.strings; protos = t.protos; methods = names_with t.given p.methods; classes = q.classes } ≡ record p { strings = q.strings; protos = q.protos; methods = q.methods; classes = q.classes }
      same = λ i. record p {
        strings = ap (λ (z : Program). z.strings) (sym x.rest) i;
        protos = ap (λ (z : Program). z.protos) (sym x.rest) i;
        methods = ap (λ (z : Program). z.methods) (sym x.rest) i;
        classes = q.classes;
      }

      unnamed : (n : ℕ) (m : MethodName) (z : Option ℕ) → is_some z ≡ false → Some (name_with m z) ≡ Some m
      unnamed n m None f = refl
      unnamed n m (Some k) f = clash true refl f
