-- The table of frames, method by method.
use Rattle.std.proofs.Common.{◌≡◌, ℕ, ◌+◌, ◌<◌, ◌≤◌, true≢false, List, Option, Some, None, inl, inr, refl, sym, ap, ◌∙◌, subst, arith}
use Rattle.std.specs.Prelude.{length, slice_get, option_and_then}
use Rattle.std.proofs.lemmas.Bool.{cases_lt}
use Rattle.std.proofs.lemmas.Option.{slice_get_within}
use Rattle.program_model.specs.declared.body.Body.{Body}
use Rattle.program_model.specs.declared.program.Method.{Method}
use Rattle.program_model.specs.declared.program.MethodAt.{MethodAt}
use Rattle.program_model.specs.declared.program.Class.{Class}
use Rattle.program_model.specs.Lookups.{method_at}
use Rattle.dom_frame.specs.declared.frames.Frame.{Frame}
use Rattle.facts_check.specs.declared.known.Known.{Known}
use Rattle.facts_check.specs.declared.methods.Table.{Table}
use Rattle.facts_check.specs.Known.{is_marked}
use Rattle.facts_check.specs.Bodies.{AreFrames}
use Rattle.facts_check.specs.Tables.{IsBefore, IsIn, IsPut, IsAdded, Adds, IsFilledTo, AreFilled}

module _ (k : Known) where
  pub none_added : (t : Table) → IsFilledTo k t 0 0
  none_added t = record { has = λ at m b before e l. elim before [ inl lt ↦ absurd (omega arith) | inr h ↦ absurd (let lt = h.1 in omega (arith, lt)) ] }

  -- a number that has been seen keeps its frames
  in_more : (old new : Table) (class number : ℕ) (b : Body) (method : ℕ) (frames : List (Option Frame)) → IsIn k old class number b → IsPut old new method frames → IsIn k new class number b
  in_more old new class number b method frames h p =
      let other : number ≡ method → ⊥ = λ e. true≢false (sym h.seen ∙ ap (is_marked old.seen.items) e ∙ p.fresh) in
      record { frames = subst (AreFrames k class number b) (sym (p.others number other)) h.frames; seen = p.kept number other ∙ h.seen }

  in_itself : (old new : Table) (class method : ℕ) (b : Body) → IsAdded k class method b old new → IsIn k new class method b
  in_itself old new class method b h = record { frames = subst (AreFrames k class method b) (sym h.put.own) h.are; seen = h.put.seen }

  -- the method at a place of a class
  same_method : (class : Class) (c : ℕ) (at : MethodAt) (m n : Method) → slice_get k.program.now.classes c ≡ Some class → slice_get class.methods at.place ≡ Some m → at.class ≡ c → method_at k.program.now at ≡ Some n → n ≡ m
  same_method class c at m n e i l h =
      let o : method_at k.program.now at ≡ Some m = ap (option_and_then (λ (c : Class). slice_get c.methods at.place)) (ap (slice_get k.program.now.classes) l ∙ e) ∙ i in
      let s : Some n ≡ Some m = sym h ∙ o in cc

  pub one_added : (old new : Table) (c i : ℕ) (class : Class) (m : Method) → slice_get k.program.now.classes c ≡ Some class → slice_get class.methods i ≡ Some m → Adds k c m.name m.body old new → IsFilledTo k old c i → IsFilledTo k new c (i + 1)
  one_added old new c i class m e l a h = record {
    has = λ at n b before f g. elim before [
      | inl lt ↦ stays at n b (inl lt) f g
      | inr s ↦ elim (cases_lt at.place i) [
        | inl below ↦ stays at n b (inr (s.0, below)) f g
        | inr above ↦ own at n b s.0 (let lt = s.1 in omega (arith, lt)) f g
      ]
    ];
  }
    where
      keeps : (o : Option Body) → Adds k c m.name o old new → (d number : ℕ) (b : Body) → IsIn k old d number b → IsIn k new d number b
      keeps None a d number b q = subst (λ t. IsIn k t d number b) (sym a) q
      keeps (Some b0) a d number b q = in_more old new d number b m.name a.frames q a.put

      stays : (at : MethodAt) (n : Method) (b : Body) → IsBefore c i at → method_at k.program.now at ≡ Some n → n.body ≡ Some b → IsIn k new at.class n.name b
      stays at n b before f g = keeps m.body a at.class n.name b (h.has at n b before f g)

      with_body : (o : Option Body) (b : Body) → o ≡ Some b → Adds k c m.name o old new → IsIn k new c m.name b
      with_body None b g a = absurd (cc)
      with_body (Some d) b g a = let s : d ≡ b = cc in subst (λ b. IsIn k new c m.name b) s (in_itself old new c m.name d a)

      own : (at : MethodAt) (n : Method) (b : Body) → at.class ≡ c → at.place ≡ i → method_at k.program.now at ≡ Some n → n.body ≡ Some b → IsIn k new at.class n.name b
      own at n b s t f g =
          let same : n ≡ m = same_method class c at m n e (ap (slice_get class.methods) t ∙ l) s f in
          let g1 : m.body ≡ Some b = ap (λ (q : Method). q.body) (sym same) ∙ g in
          subst (λ d. IsIn k new d n.name b) (sym s) (subst (λ (q : Method). IsIn k new c q.name b) (sym same) (with_body m.body b g1 a))

  -- the methods of a class are all of those at its place
  pub class_added : (t : Table) (c n : ℕ) (class : Class) → slice_get k.program.now.classes c ≡ Some class → length class.methods ≤ n → IsFilledTo k t c n → IsFilledTo k t (c + 1) 0
  class_added t c n class e l h = record {
    has = λ at m b before f g. elim before [
      | inl lt ↦ elim (cases_lt at.class c) [
        | inl below ↦ h.has at m b (inl below) f g
        | inr above ↦
            let s : at.class ≡ c = omega arith in
            let o : method_at k.program.now at ≡ slice_get class.methods at.place = ap (option_and_then (λ (c : Class). slice_get c.methods at.place)) (ap (slice_get k.program.now.classes) s ∙ e) in
            let w : at.place < length class.methods = slice_get_within class.methods at.place m (sym o ∙ f) in
            h.has at m b (inr (s, omega arith)) f g
      ]
      | inr s ↦ absurd (let lt = s.1 in omega (arith, lt))
    ];
  }

  pub all_added : (t : Table) (n : ℕ) → length k.program.now.classes ≤ n → IsFilledTo k t n 0 → AreFilled k t.frames.items
  all_added t n l h = record { has = λ at m b f g. (h.has at m b (inl (within at m f)) f g).frames }
    where
      within : (at : MethodAt) (m : Method) → method_at k.program.now at ≡ Some m → at.class < n
      within at m f = by (slice_get k.program.now.classes at.class) refl f
        where
          by : (o : Option Class) → slice_get k.program.now.classes at.class ≡ o → option_and_then (λ (c : Class). slice_get c.methods at.place) o ≡ Some m → at.class < n
          by None i j = absurd (cc)
          by (Some c) i j = let lt : at.class < length k.program.now.classes = slice_get_within k.program.now.classes at.class c i in omega arith
