-- A program stays under each pass.
use Rattle.std.proofs.Common.{◌≡◌, ℕ, zero, suc, ◌<◌, ◌≤◌, Bool, true, false, true≢false, List, [], ◌∷◌, Option, Some, None, refl, sym, ap, ◌∙◌, subst, arith}
use Rattle.std.specs.Prelude.{length, map, filter, replicate, nat_eq, slice_get, slice_index_or, if◌then◌else◌}
use Rattle.std.specs.List.{AllZip}
use Rattle.lemmas.proofs.Lists.{got_short, get_there}
use Rattle.lemmas.proofs.Options.{some_same, none_some}
use Rattle.program_model.specs.declared.body.Body.{Body}
use Rattle.program_model.specs.declared.pass.Changed.{Changed}
use Rattle.program_model.specs.declared.program.Class.{Class}
use Rattle.program_model.specs.declared.program.Field.{Field}
use Rattle.program_model.specs.declared.program.Method.{Method}
use Rattle.program_model.specs.declared.program.Program.{Program}
use Rattle.body_edit.specs.declared.fate.Fate.{Fate}
use Rattle.body_edit.specs.Fates.{fates_of}
use Rattle.pass_defs.specs.Thinned.{body_thinned}
use Rattle.call_graph.specs.declared.live_set.LiveSet.{LiveSet}
use Rattle.reach.specs.Kept.{is_marked, kept_in, live_classes, kept_of}
use Rattle.thin_pass.specs.Wishing.{FatesIn, FatesIf, HasFates, is_small}
use Rattle.thin_pass.specs.Plans.{changed_in, lines_left, method_thinned, method_by, methods_by, class_by, classes_by, program_by, AreFor, AreForClasses, IsThinnedBy}
use Rattle.thin_pass.proofs.Lighter.{stay_changes, method_same as unchanged}
use Rattle.insn_regs.specs.Wides.{widths_of}
use Rattle.walk_marks.specs.Walks.{is_on}
use Rattle.copy_prop.specs.Propagated as copies
use Rattle.copy_prop.specs.Propagated.{IsPropagatedProgram}
use Rattle.compact.specs.Renamed as packs
use Rattle.compact.specs.Renamed.{IsCompactedProgram}
use Rattle.bodies_kept.specs.Stays.{Stands, NoMoreRegisters, MethodStays, ClassStays, Stays}
use Rattle.bodies_kept.proofs.Standing.{behind, first, in_filter, in_map}
use Rattle.bodies_kept.proofs.Staying.{no_more_same, method_same, class_same}

module _ (admitted : List Bool) where
  -- ---- removal

  kept_class : (s : LiveSet) (c : Class) → ClassStays admitted c (kept_in s c)
  kept_class s c = record {
    rest = refl;
    fields = λ f t. in_filter (λ f. is_marked s.fields.items f.name) c.fields f t;
    methods = λ n t. (n, (in_filter (λ m. is_marked s.methods.items m.name) c.methods n t, method_same admitted n));
  }

  pub removed_stays : (s : LiveSet) (p : Program) → Stays admitted p (kept_of s p)
  removed_stays s p = record {
    rest = refl;
    classes = λ d t. let c = in_map (kept_in s) (live_classes s p.classes) d t in
        (c.0, (in_filter (λ c. is_marked s.classes.items c.name) p.classes c.0 c.1.0, subst (λ d. ClassStays admitted c.0 d) c.1.1 (kept_class s c.0)));
  }

  -- ---- thinning

  module _ (wishes : Body → List Fate → Type 0) where
    -- where all fates are to stay, or there are none, nothing changes
    refused_unchanged : (m : Method) (fs : List Fate) → HasFates wishes admitted m fs → slice_index_or admitted m.name false ≡ false → changed_in fs ≡ 0
    refused_unchanged m fs h e = by (slice_index_or admitted m.name false) e (is_small m) m.body h
      where
        by : (a : Bool) → a ≡ false → (small : Bool) (o : Option Body) → FatesIf wishes a small o fs → changed_in fs ≡ 0
        by a e false o h = ap changed_in h
        by a e true None h = ap changed_in h
        by false e true (Some b) h = ap changed_in h ∙ stay_changes (length b.insns)
        by true e true (Some b) h = absurd (true≢false e)

    IsRest : Method → Method → Type 0
    IsRest m n = n ≡ record m { body = n.body; lines = n.lines }

    -- by the body that a method has
    with_body : List Fate → Method → Option Body → Method
    with_body fs m o = elim o [ Some b ↦ record m { body = Some (body_thinned (fates_of fs) b); lines = lines_left fs m.lines } | None ↦ m ]

    rest_with : (fs : List Fate) (m : Method) (o : Option Body) → IsRest m (with_body fs m o)
    unfolding with_body IsRest
    rest_with fs m (Some b) = refl
    rest_with fs m None = refl

    registers_with : (fs : List Fate) (m : Method) (o : Option Body) → m.body ≡ o → NoMoreRegisters m.body (with_body fs m o).body
    unfolding with_body
    registers_with fs m (Some b) e = subst (λ z. NoMoreRegisters z (Some (body_thinned (fates_of fs) b))) (sym e) (omega arith, refl)
    registers_with fs m None e = no_more_same m.body

    is_with : (fs : List Fate) (m : Method) → with_body fs m m.body ≡ method_thinned fs m
    unfolding with_body
    is_with fs m = refl

    thinned_method : (fs : List Fate) (m : Method) → HasFates wishes admitted m fs → MethodStays admitted m (method_by fs m)
    unfolding IsRest
    thinned_method fs m h = record {
      rest = rest_by (nat_eq (changed_in fs) 0);
      refused = λ e. unchanged fs m (refused_unchanged m fs h e);
      registers = registers_by (nat_eq (changed_in fs) 0);
    }
      where
        rest_by : (z : Bool) → IsRest m (if z then m else method_thinned fs m)
        rest_by true = refl
        rest_by false = subst (IsRest m) (is_with fs m) (rest_with fs m m.body)

        registers_by : (z : Bool) → NoMoreRegisters m.body (if z then m else method_thinned fs m).body
        registers_by true = no_more_same m.body
        registers_by false = subst (λ (n : Method). NoMoreRegisters m.body n.body) (is_with fs m) (registers_with fs m m.body refl)

    thinned_methods : (ms : List Method) (plan : List (List Fate)) → AreFor (HasFates wishes admitted) ms plan → (n : Method) → Stands (methods_by plan ms) n → (m : Method) × (Stands ms m × MethodStays admitted m n)
    thinned_methods [] [] h n s = none_some n s.1
    thinned_methods [] (fs ∷ plan) h n s = absurd h
    thinned_methods (m ∷ ms) [] h n s = absurd h
    thinned_methods (m ∷ ms) (fs ∷ plan) h n (zero, e) = (m, (first m ms, subst (λ n. MethodStays admitted m n) (some_same (method_by fs m) n e) (thinned_method fs m h.0)))
    thinned_methods (m ∷ ms) (fs ∷ plan) h n (suc k, e) = let r = thinned_methods ms plan h.1 n (k, e) in (r.0, (behind m r.0 ms r.1.0, r.1.1))

    thinned_class : (ps : List (List Fate)) (c : Class) → AreFor (HasFates wishes admitted) c.methods ps → ClassStays admitted c (class_by ps c)
    thinned_class ps c h = record { rest = refl; fields = λ f s. s; methods = thinned_methods c.methods ps h }

    thinned_classes : (cs : List Class) (plan : List (List (List Fate))) → AreForClasses (HasFates wishes admitted) cs plan → (d : Class) → Stands (classes_by plan cs) d → (c : Class) × (Stands cs c × ClassStays admitted c d)
    thinned_classes [] [] h d s = none_some d s.1
    thinned_classes [] (ps ∷ plan) h d s = absurd h
    thinned_classes (c ∷ cs) [] h d s = absurd h
    thinned_classes (c ∷ cs) (ps ∷ plan) h d (zero, e) = (c, (first c cs, subst (λ d. ClassStays admitted c d) (some_same (class_by ps c) d e) (thinned_class ps c h.0)))
    thinned_classes (c ∷ cs) (ps ∷ plan) h d (suc k, e) = let r = thinned_classes cs plan h.1 d (k, e) in (r.0, (behind c r.0 cs r.1.0, r.1.1))

    pub thinned_stays : (p : Program) (c : Changed) → IsThinnedBy wishes admitted p c → Stays admitted p c.program
    thinned_stays p c h = subst (λ (q : Program). Stays admitted p q) (sym h.program) (record { rest = refl; classes = thinned_classes p.classes h.plan h.fates })

  -- ---- in place

  lines_same : (m n : Method) → n ≡ record m { body = n.body } → n ≡ record m { body = n.body; lines = n.lines }
  lines_same m n e = e ∙ ap (λ l. record m { body = n.body; lines = l }) (sym (ap (λ (x : Method). x.lines) e))

  in_each : {A : Type 0} (R : A → A → Type 0) (xs ys : List A) → length ys ≡ length xs → ((k : ℕ) (x : A) → slice_get xs k ≡ Some x → (y : A) × (slice_get ys k ≡ Some y) × R x y)
      → (y : A) → Stands ys y → (x : A) × (Stands xs x × R x y)
  in_each R xs ys long each y s =
      let short = got_short ys s.0 y s.1 in
      let x = get_there xs s.0 (omega (arith, short, long)) in
      let z = each s.0 x.0 x.1 in
      (x.0, ((s.0, x.1), subst (λ y. R x.0 y) (some_same z.0 y (sym z.1 ∙ s.1)) z.2))

  -- copies
  module _ (w : List (List Bool)) where
    copied_refused : (a : Bool) → a ≡ false → (o q : Option Body) → copies.RewritesBody w a o q → q ≡ o
    copied_refused true e o q h = absurd (true≢false e)
    copied_refused false e None q h = h
    copied_refused false e (Some b) None h = h
    copied_refused false e (Some b) (Some d) h = h

    copied_registers : (a : Bool) (o q : Option Body) → copies.RewritesBody w a o q → NoMoreRegisters o q
    copied_registers true (Some b) (Some d) h = (omega (arith, h.registers), h.ins)
    copied_registers true (Some b) None h = absurd h
    copied_registers true None q h = subst (λ z. NoMoreRegisters None z) (sym h) tt
    copied_registers false None q h = subst (λ z. NoMoreRegisters None z) (sym h) tt
    copied_registers false (Some b) None h = subst (λ z. NoMoreRegisters (Some b) z) (sym h) (no_more_same (Some b))
    copied_registers false (Some b) (Some d) h = subst (λ z. NoMoreRegisters (Some b) z) (sym h) (no_more_same (Some b))

    copied_method : (m n : Method) → copies.IsPropagatedMethod w admitted m n → MethodStays admitted m n
    copied_method m n h = record {
      rest = lines_same m n h.rest;
      refused = λ e. h.rest ∙ ap (λ o. record m { body = o }) (copied_refused (is_on admitted m.name) e m.body n.body h.body);
      registers = copied_registers (is_on admitted m.name) m.body n.body h.body;
    }

    copied_class : (c d : Class) → copies.IsPropagatedClass w admitted c d → ClassStays admitted c d
    copied_class c d h = record {
      rest = h.rest ∙ ap (λ fs. record c { fields = fs; methods = d.methods }) (sym (ap (λ (x : Class). x.fields) h.rest));
      fields = λ f s. subst (λ fs. Stands fs f) (ap (λ (x : Class). x.fields) h.rest) s;
      methods = λ n s. let r = in_each (copies.IsPropagatedMethod w admitted) c.methods d.methods h.methods.long h.methods.each n s in (r.0, (r.1.0, copied_method r.0 n r.1.1));
    }

  pub propagated_stays : (p q : Program) → IsPropagatedProgram admitted p q → Stays admitted p q
  propagated_stays p q h = record {
    rest = h.rest;
    classes = λ d s. let r = in_each (copies.IsPropagatedClass (widths_of p) admitted) p.classes q.classes h.classes.long h.classes.each d s in (r.0, (r.1.0, copied_class (widths_of p) r.0 d r.1.1));
  }

  -- numbers
  module _ (w : List (List Bool)) where
    packed_refused : (a : Bool) → a ≡ false → (o q : Option Body) → packs.RewritesBody w a o q → q ≡ o
    packed_refused true e o q h = absurd (true≢false e)
    packed_refused false e None q h = h
    packed_refused false e (Some b) None h = h
    packed_refused false e (Some b) (Some d) h = h

    packed_registers : (a : Bool) (o q : Option Body) → packs.RewritesBody w a o q → NoMoreRegisters o q
    packed_registers true (Some b) (Some d) h = (h.registers, h.ins)
    packed_registers true (Some b) None h = absurd h
    packed_registers true None q h = subst (λ z. NoMoreRegisters None z) (sym h) tt
    packed_registers false None q h = subst (λ z. NoMoreRegisters None z) (sym h) tt
    packed_registers false (Some b) None h = subst (λ z. NoMoreRegisters (Some b) z) (sym h) (no_more_same (Some b))
    packed_registers false (Some b) (Some d) h = subst (λ z. NoMoreRegisters (Some b) z) (sym h) (no_more_same (Some b))

    packed_method : (m n : Method) → packs.IsCompactedMethod w admitted m n → MethodStays admitted m n
    packed_method m n h = record {
      rest = lines_same m n h.rest;
      refused = λ e. h.rest ∙ ap (λ o. record m { body = o }) (packed_refused (is_on admitted m.name) e m.body n.body h.body);
      registers = packed_registers (is_on admitted m.name) m.body n.body h.body;
    }

    packed_class : (c d : Class) → packs.IsCompactedClass w admitted c d → ClassStays admitted c d
    packed_class c d h = record {
      rest = h.rest ∙ ap (λ fs. record c { fields = fs; methods = d.methods }) (sym (ap (λ (x : Class). x.fields) h.rest));
      fields = λ f s. subst (λ fs. Stands fs f) (ap (λ (x : Class). x.fields) h.rest) s;
      methods = λ n s. let r = in_each (packs.IsCompactedMethod w admitted) c.methods d.methods h.methods.long h.methods.each n s in (r.0, (r.1.0, packed_method r.0 n r.1.1));
    }

  pub compacted_stays : (p q : Program) → IsCompactedProgram admitted p q → Stays admitted p q
  compacted_stays p q h = record {
    rest = h.rest;
    classes = λ d s. let r = in_each (packs.IsCompactedClass (widths_of p) admitted) p.classes q.classes h.classes.long h.classes.each d s in (r.0, (r.1.0, packed_class (widths_of p) r.0 d r.1.1));
  }
