-- What passes leave that keep numbers has no new virtual method.
use Rattle.std.proofs.Common.{◌≡◌, Bool, true, false, List, [], ◌∷◌, Option, Some, None, refl, sym, ap, ◌∙◌, subst}
use Rattle.std.specs.Prelude.{cond, filter, find, Contains}
use Rattle.lemmas.proofs.Options.{before_map, none_some, some_same}
use Rattle.program_model.specs.declared.program.Program.{Program}
use Rattle.dalvik_defs.specs.Find.{is_virtual_method}
use Rattle.dalvik_defs.specs.Names.{Text, text_eq}
use Rattle.dalvik_defs.specs.Naming.{named}
use Rattle.dalvik_defs.specs.Silence.{key_in}
use Rattle.dalvik_defs.specs.Under.{class_named}
use Rattle.dalvik_defs.specs.declared.names.MethodKey.{MethodKey}
use Rattle.dalvik_defs.specs.declared.program.NamedClass.{NamedClass}
use Rattle.dalvik_defs.specs.declared.program.NamedMethod.{NamedMethod}
use Rattle.dalvik_defs.specs.declared.program.NamedProgram.{NamedProgram}
use Rattle.pass_defs.specs.Live.{Family}
use Rattle.removal_law.specs.Left.{In, here, there, left_in, left_of}
use Rattle.removal_law.proofs.Classes.{class_left, dead_found}
use Rattle.removal_law.proofs.Finds.{in_unfiltered}
use Rattle.removal_law.proofs.Lists.{contained}
use Rattle.program_laws.specs.Numbered.{NumberedCodes, OtherNumberedBodies}
use Rattle.program_laws.specs.Others.{Codes, OtherBodies, OtherClass, OtherMethod, Pairwise}
use Rattle.program_laws.proofs.Named.{others_named}
use Rattle.static_law.proofs.Programs.{in_from}
use Rattle.program_laws.specs.Virtual.{HasVirtual, VirtualsStay}

-- ---- removal

pub virtuals_removed : (p : NamedProgram) (s : Family) → VirtualsStay p (left_of s p)
virtuals_removed p s t d m e i v = by (s.classes t) refl
  where
    by : (b : Bool) → s.classes t ≡ b → HasVirtual p (key_in d m)
    by false l = none_some d (sym (dead_found s t l p.classes) ∙ e)
    by true l =
        let c = before_map (left_in s) (class_named p t) d (sym (class_left s p t (λ k. l)) ∙ e) in
        let there : In m (left_in s c.0).methods = subst (λ (x : NamedClass). In m x.methods) (sym c.1.1) (in_from d.methods m i) in
        record {
          type = t;
          class = c.0;
          method = m;
          named = c.1.0;
          is_in = contained m c.0.methods (in_unfiltered (λ n. s.methods (key_in c.0 n)) m c.0.methods there);
          virtual = v;
          key = ap (λ (x : NamedClass). key_in x m) c.1.1;
        }

-- ---- bodies

module _ (R : Codes) where
  -- the class that a class was
  class_before : (t : Text) (d : NamedClass) (cs ds : List NamedClass) → Pairwise (OtherClass R) cs ds → find (λ (x : NamedClass). text_eq x.name t) ds ≡ Some d
      → (c : NamedClass) × ((find (λ (x : NamedClass). text_eq x.name t) cs ≡ Some c) × OtherClass R c d)
  class_before t d [] [] r e = none_some d e
  class_before t d [] (y ∷ ds) r e = absurd r
  class_before t d (x ∷ cs) [] r e = absurd r
  class_before t d (x ∷ cs) (y ∷ ds) r e = by (text_eq y.name t) refl e (class_before t d cs ds r.1)
    where
      test : NamedClass → Bool
      test z = text_eq z.name t

      same : test x ≡ test y
      same = sym (ap (λ (z : NamedClass). text_eq z.name t) r.0.same)

      by : (b : Bool) → test y ≡ b → cond b (Some y) (find test ds) ≡ Some d → (find test ds ≡ Some d → (c : NamedClass) × ((find test cs ≡ Some c) × OtherClass R c d))
          → (c : NamedClass) × ((cond (test x) (Some x) (find test cs) ≡ Some c) × OtherClass R c d)
      by true f g more = (x, (ap (λ b. cond b (Some x) (find test cs)) (same ∙ f), subst (OtherClass R x) (some_same y d g) r.0))
      by false f g more = let z = more g in (z.0, (ap (λ b. cond b (Some x) (find test cs)) (same ∙ f) ∙ z.1.0, z.1.1))

  -- the method that a method was
  method_before : (c : NamedClass) (n : NamedMethod) (ms ns : List NamedMethod) → Pairwise (OtherMethod R c) ms ns → In n ns → (m : NamedMethod) × (In m ms × OtherMethod R c m n)
  method_before c n [] [] r i = elim i [ ]
  method_before c n [] (y ∷ ns) r i = absurd r
  method_before c n (x ∷ ms) [] r i = absurd r
  method_before c n (x ∷ ms) (y ∷ ns) r (here zs) = (x, (here ms, r.0))
  method_before c n (x ∷ ms) (y ∷ ns) r (there z zs i) = let m = method_before c n ms ns r.1 i in (m.0, (there x ms m.1.0, m.1.1))

  pub virtuals_others : (p q : NamedProgram) → OtherBodies R p q → VirtualsStay p q
  virtuals_others p q h t d n e i v =
      let c = class_before t d p.classes q.classes h.classes e in
      let m = method_before c.0 n c.0.methods d.methods c.1.1.methods (in_from d.methods n i) in
      record {
        type = t;
        class = c.0;
        method = m.0;
        named = c.1.0;
        is_in = contained m.0 c.0.methods m.1.0;
        virtual = sym (ap is_virtual_method m.1.1.same) ∙ v;
        key = sym (ap (λ (x : NamedMethod). key_in c.0 x) m.1.1.same) ∙ sym (ap (λ (x : NamedClass). key_in x n) c.1.1.same);
      }

pub virtuals_numbered : (N : NumberedCodes) (p q : Program) → OtherNumberedBodies N p q → VirtualsStay (named p) (named q)
virtuals_numbered N p q h = virtuals_others (λ k a b. Unit {0}) (named p) (named q) (others_named N (λ k a b. Unit {0}) p (λ k a b x. tt) q h)
