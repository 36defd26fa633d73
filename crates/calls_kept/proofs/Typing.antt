-- A program with nops for what does nothing has a typing where the program has one.
use Rattle.std.proofs.Common.{◌≡◌, ◌↔◌, ◌⊎◌, inl, inr, ℕ, zero, suc, ◌+◌, ◌<◌, ◌≤◌, Bool, true, false, true≢false, List, [], ◌∷◌, map, Option, Some, None, refl, sym, ap, ap₂, ◌∙◌, subst, arith}
use Rattle.std.specs.Prelude.{◌&&◌, ◌||◌, not, if◌then◌else◌, nat_lt, slice_get, Contains}
use Rattle.std.specs.List.{list_all, list_any}
use Rattle.std.specs.Option.{option_map}
use Rattle.std.proofs.lemmas.Bool.{cases_lt, le-ltb, lt-ltb}
use Rattle.insn_set.specs.Flow.{divides}
use Rattle.insn_set.specs.declared.ops.BinaryOp.{BinaryOp}
use Rattle.insn_set.specs.declared.ops.BinaryOp.TheVariants as binaries
use Rattle.insn_set.specs.declared.ops.InvokeKind.{InvokeKind}
use Rattle.insn_set.specs.declared.ops.InvokeKind.TheVariants as call
use Rattle.insn_set.specs.declared.form.Insn.{Insn}
use Rattle.insn_set.specs.declared.form.Insn.TheVariants as insn
use Rattle.program_model.specs.ProgramRules.{is_well_formed}
use Rattle.program_model.specs.Lookups.{class_place}
use Rattle.program_model.specs.Lookups as look
use Rattle.program_model.specs.declared.body.Body.{Body}
use Rattle.program_model.specs.declared.pools.MethodName.{MethodName}
use Rattle.program_model.specs.declared.program.MethodAt.{MethodAt}
use Rattle.program_model.specs.declared.program.Program.{Program}
use Rattle.class_defs.specs.Finding.{finds_static, finds_virtual}
use Rattle.class_defs.proofs.WellFormed.{Sound, sound}
use Rattle.dalvik_defs.specs.Names.{Text}
use Rattle.dalvik_defs.specs.Naming.{body_of, form_of, named, text_at}
use Rattle.dalvik_defs.specs.Naming as naming
use Rattle.dalvik_defs.specs.Outer.{Outer}
use Rattle.dalvik_defs.specs.Silence.{key_in, silenced_forms, silenced_body}
use Rattle.dalvik_defs.specs.declared.forms.Form.{Form}
use Rattle.dalvik_defs.specs.declared.forms.Form.TheVariants as form
use Rattle.dalvik_defs.specs.declared.names.MethodKey.{MethodKey}
use Rattle.dalvik_defs.specs.declared.program.NamedBody.{NamedBody}
use Rattle.dalvik_defs.specs.declared.program.NamedClass.{NamedClass}
use Rattle.dalvik_defs.specs.declared.program.NamedMethod.{NamedMethod}
use Rattle.dalvik_defs.specs.declared.program.NamedProgram.{NamedProgram}
use Rattle.dom_frame.specs.declared.frames.Frame.{Frame}
use Rattle.facts.specs.Lent.{frame_at}
use Rattle.hierarchy.specs.Shapes.{IsAcyclic}
use Rattle.live_regs.specs.Live.{is_live}
use Rattle.live_regs.specs.declared.table.Live.{Live}
use Rattle.body_graph.specs.Walks.{IsRead}
use Rattle.lemmas.proofs.Bools.{and_left, and_right, not_true}
use Rattle.lemmas.proofs.Lists.{all_in}
use Rattle.lemmas.proofs.Options.{none_some, some_same}
use Rattle.name_bridge.proofs.Tables.{method_is}
use Rattle.pass_defs.specs.Bare.{writes, continues}
use Rattle.pass_defs.specs.Demands.{is_allowed, is_constructor_name}
use Rattle.pass_defs.specs.Kinds.{Undefined, kind_of}
use Rattle.pass_defs.specs.Quiet.{takes_result}
use Rattle.pass_defs.specs.Registers.{Kinds, kind_at}
use Rattle.pass_defs.specs.Typed.{Table, IsTyping, IsTyped, after, called, constructed, is_static_call, is_wrong, receiver_register, state_at}
use Rattle.pass_defs.specs.Walks.{form_at, onward}
use Rattle.pass_defs.specs.Walks as by_name
use Rattle.program_laws.specs.Results.{takes_none, TakesInPlace}
use Rattle.program_laws.proofs.Raised.{raised, silent_typing}
use Rattle.program_laws.specs.Others.{OtherBodies}
use Rattle.program_laws.specs.Numbered.{OtherNumberedBodies}
use Rattle.program_laws.proofs.Named.{others_named}
use Rattle.program_laws.proofs.Typed.{others_typed}
use Rattle.program_laws.proofs.Walks.{goes_next, goes_onward}
use Rattle.removal_bridge.proofs.WalkedForms.{form_there}
use Rattle.removal_bridge.proofs.Walked.{read_after_by_number, read_by_number}
use Rattle.bodies_kept.specs.Veiled.{or_nop, emptied_forms, emptied, veiled_table}
use Rattle.bodies_kept.proofs.Plain.{pure_keeps}
use Rattle.receivers.specs.Receiving.{interface_at, is_overridden}
use Rattle.program_laws.proofs.WellFormed.{well_placed}
use Rattle.quiet_code.specs.Calls.{is_init, is_constructor, is_quiet_target, is_quiet_found, is_quiet_named, is_quiet_for_all, is_quiet_under, is_quiet_virtual, is_idle_call, has_object}
use Rattle.quiet_code.specs.Idle.{DoesNothing, IsIdle, LiveIn, is_division, is_small}
use Rattle.quiet_code.specs.Idle as number
use Rattle.quiet_code.specs.Quieted.{Frames}
use Rattle.calls_kept.specs.Nopped.{nop_for, nopped, body_nopped, QuietedCode, NoCode, Same, Quieted}
use Rattle.calls_kept.proofs.QuietNamed.{same_takes}
use Rattle.calls_kept.proofs.Veiling.{HidesSo, Vanishes, emptied_typing}

-- ---- what is live

-- What some walk reads is live, and so is what is read wherever a live register is. Where there is a division and the body is small,
-- registers of the body that no walk reads aren't live.
record Lives (b : Body) (live : ℕ → ℕ → Bool) : Type 0 where
  yes : (n r : ℕ) → IsRead b r n → live n r ≡ true
  grows : (n q r : ℕ) → (IsRead b r q → IsRead b r n) → live q r ≡ true → live n r ≡ true
  none : (n r k : ℕ) (op : BinaryOp) (to x y : ℕ) → is_small b ≡ true → slice_get b.insns k ≡ Some (insn.Binary op to x y) → divides op ≡ true → r < b.registers → (IsRead b r n → ⊥) → live n r ≡ false

any_at : {A : Type 0} (t : A → Bool) (xs : List A) (n : ℕ) (x : A) → slice_get xs n ≡ Some x → t x ≡ true → list_any t xs ≡ true
any_at t [] n x i e = none_some x i
any_at {A} t (y ∷ xs) zero x i e = ap (λ b. b || list_any t xs) (ap t (some_same y x i) ∙ e)
any_at t (y ∷ xs) (suc n) x i e = or_right (t y) (list_any t xs) (any_at t xs n x i e)
  where
    or_right : (a c : Bool) → c ≡ true → (a || c) ≡ true
    or_right true c e = refl
    or_right false c e = e

record Living (b : Body) : Type 0 where
  live : ℕ → ℕ → Bool
  lives : Lives b live

module _ (b : Body) where
  -- all is live
  always : ((k : ℕ) (op : BinaryOp) (to x y : ℕ) → is_small b ≡ true → slice_get b.insns k ≡ Some (insn.Binary op to x y) → divides op ≡ true → ⊥) → Living b
  always never = record { live = λ n r. true; lives = record { yes = λ n r i. refl; grows = λ n q r f e. refl; none = λ n r k op to x y s i d l u. absurd (never k op to x y s i d) } }

  module _ (t : Live) (is : (n r : ℕ) → r < b.registers → (is_live t n r ≡ true) ↔ IsRead b r n) where
    abbrev live_by : ℕ → ℕ → Bool
    live_by n r = not (nat_lt r b.registers) || is_live t n r

    inside : (n r : ℕ) → r < b.registers → live_by n r ≡ is_live t n r
    inside n r l = ap (λ z. not z || is_live t n r) (lt-ltb r b.registers l)

    outside : (n r : ℕ) → b.registers ≤ r → live_by n r ≡ true
    outside n r l = ap (λ z. not z || is_live t n r) (le-ltb r b.registers l)

    read_lives : (n r : ℕ) → IsRead b r n → live_by n r ≡ true
    read_lives n r i = elim (cases_lt r b.registers) [ inl l ↦ inside n r l ∙ (is n r l).1 i | inr l ↦ outside n r l ]

    lives_on : (n q r : ℕ) → (IsRead b r q → IsRead b r n) → live_by q r ≡ true → live_by n r ≡ true
    lives_on n q r f e = elim (cases_lt r b.registers) [ inl l ↦ inside n r l ∙ (is n r l).1 (f ((is q r l).0 (sym (inside q r l) ∙ e))) | inr l ↦ outside n r l ]

    unread_dies : (n r : ℕ) → r < b.registers → (IsRead b r n → ⊥) → live_by n r ≡ false
    unread_dies n r l u = by (live_by n r) refl
      where
        by : (z : Bool) → live_by n r ≡ z → z ≡ false
        by false e = refl
        by true e = absurd (u ((is n r l).0 (sym (inside n r l) ∙ e)))

    living_by : Living b
    living_by = record { live = live_by; lives = record { yes = read_lives; grows = lives_on; none = λ n r k op to x y s i d l u. unread_dies n r l u } }

  living : (live : Option Live) → (is_small b ≡ true → LiveIn b live) → Living b
  living live h = by (is_small b) refl
    where
      in_small : (o : Option Live) → LiveIn b o → Living b
      in_small None never = always (λ k op to x y s i d. true≢false (sym (any_at is_division b.insns k (insn.Binary op to x y) i d) ∙ never))
      in_small (Some t) is = living_by t is

      by : (z : Bool) → is_small b ≡ z → Living b
      by false e = always (λ k op to x y s i d. true≢false (sym s ∙ e))
      by true e = in_small live (h e)

-- ---- results

raised_bare : (p : NamedProgram) (fs : List Form) (t : Table) (n : ℕ) (l : Kinds) → takes_result (slice_get fs n) ≡ false → state_at (raised p fs t) n ≡ Some l → l.result ≡ Undefined
raised_bare p fs [] n l e i = none_some l i
raised_bare p [] (None ∷ t) zero l e i = none_some l i
raised_bare p [] (Some a ∷ t) zero l e i = ap (λ (k : Kinds). k.result) (sym (some_same (record a { result = Undefined }) l i))
raised_bare p [] (a ∷ t) (suc n) l e i = raised_bare p [] t n l e i
raised_bare p (form.MoveResult slot to ∷ fs) (a ∷ t) zero l e i = absurd (true≢false e)
raised_bare p (f ∷ fs) (None ∷ t) zero l e i = none_some l i
raised_bare p (f ∷ fs) (Some a ∷ t) zero l e i = ap (λ (k : Kinds). k.result) (sym (some_same (record a { result = Undefined }) l i))
raised_bare p (f ∷ fs) (a ∷ t) (suc n) l e i = raised_bare p fs t n l e i

-- nothing is silent
nobody : Outer
nobody = record { classes = λ t. false; methods = λ k. false; constructed = λ t. false; keepers = λ n s. []; fields = λ k. false; silent = λ k. false; shut = λ k. false }

none_silenced : (p : NamedProgram) (fs : List Form) → silenced_forms p nobody fs ≡ fs
unfolding nobody
none_silenced p [] = refl
none_silenced p (form.Invoke call.Static k args ∷ fs) = ap (λ l. form.Invoke call.Static k args ∷ l) (none_silenced p fs)
none_silenced p (form.Invoke kind k args ∷ fs) = ap (λ l. form.Invoke kind k args ∷ l) (none_silenced p fs)
none_silenced p (f ∷ fs) = ap (λ l. f ∷ l) (none_silenced p fs)

raised_typing : (p : NamedProgram) (c : NamedClass) (m : NamedMethod) (b : NamedBody) → TakesInPlace b → (t : Table) → IsTyping p c m b t → IsTyping p c m b (raised p b.forms t)
raised_typing p c m b places t h = subst (λ d. IsTyping p c m d (raised p b.forms t)) (ap (λ fs. record b { forms = fs }) (none_silenced p b.forms)) (silent_typing p c m b places t nobody h)

-- ---- nops by name

one_named : (p : Program) (d : Bool) (i : Insn) → form_of p (nop_for d i) ≡ or_nop d (form_of p i)
one_named p true i = refl
one_named p false i = refl

emptied_alike : (d e : ℕ → Bool) → ((n : ℕ) → d n ≡ e n) → (fs : List Form) → emptied_forms d fs ≡ emptied_forms e fs
emptied_alike d e h [] = refl
emptied_alike d e h (f ∷ fs) = ap₂ (λ b l. or_nop b f ∷ l) (h 0) (emptied_alike (λ n. d (suc n)) (λ n. e (suc n)) (λ n. h (suc n)) fs)

forms_named : (p : Program) (idle : ℕ → Bool) (k : ℕ) (is : List Insn) → map (form_of p) (nopped idle k is) ≡ emptied_forms (λ n. idle (k + n)) (map (form_of p) is)
forms_named p idle k [] = refl
forms_named p idle k (i ∷ is) = ap₂ (λ f l. f ∷ l) (one_named p (idle k) i ∙ ap (λ n. or_nop (idle n) (form_of p i)) here)
    (forms_named p idle (suc k) is ∙ emptied_alike (λ n. idle (suc k + n)) (λ n. idle (k + suc n)) (λ n. ap idle (later n)) (map (form_of p) is))
  where
    here : k ≡ k + 0
    here = omega arith

    later : (n : ℕ) → suc k + n ≡ k + suc n
    later n = omega arith

nopped_named : (p : Program) (idle : ℕ → Bool) (b : Body) → body_of p (body_nopped idle b) ≡ emptied idle (body_of p b)
nopped_named p idle b = ap (λ fs. record (body_of p b) { forms = fs }) (forms_named p idle 0 b.insns ∙ emptied_alike (λ n. idle (0 + n)) idle (λ n. ap idle (from_none n)) (map (form_of p) b.insns))
  where
    from_none : (n : ℕ) → 0 + n ≡ n
    from_none n = omega arith

-- ---- what goes leaves the kinds as they were

module _ (p : NamedProgram) (c : NamedClass) (m : NamedMethod) (n : ℕ) (a : Kinds) where
  division_vanishes : (op : BinaryOp) (to x y : ℕ) → divides op ≡ true → is_allowed p c m a (form.Binary op to x y) ≡ true → is_wrong p c m a (form.Binary op to x y) ≡ false
      → Vanishes (form.Binary op to x y) a (after p c n (form.Binary op to x y) a)
  division_vanishes binaries.DivInt to x y e allowed right = let k = pure_keeps p c m n a (form.Binary binaries.AddInt to x y) refl allowed right in record { long = k.long; others = k.others; caught = k.caught; receiver = k.receiver }
  division_vanishes binaries.RemInt to x y e allowed right = let k = pure_keeps p c m n a (form.Binary binaries.AddInt to x y) refl allowed right in record { long = k.long; others = k.others; caught = k.caught; receiver = k.receiver }
  division_vanishes binaries.DivLong to x y e allowed right = let k = pure_keeps p c m n a (form.Binary binaries.AddLong to x y) refl allowed right in record { long = k.long; others = k.others; caught = k.caught; receiver = k.receiver }
  division_vanishes binaries.RemLong to x y e allowed right = let k = pure_keeps p c m n a (form.Binary binaries.AddLong to x y) refl allowed right in record { long = k.long; others = k.others; caught = k.caught; receiver = k.receiver }
  division_vanishes op to x y e allowed right = absurd (true≢false (sym e))

  call_vanishes : (kind : InvokeKind) (k : MethodKey) (args : List ℕ) → (is_constructor_name k.name && not (is_static_call kind)) ≡ false → Vanishes (form.Invoke kind k args) a (called p c kind k args a)
  call_vanishes kind k args e = subst (λ (z : Bool). Vanishes (form.Invoke kind k args) a (record (if z then constructed p c (kind_at a.registers (receiver_register args)) a else a) { result = kind_of p k.signature.result })) (sym e) same
    where
      same : Vanishes (form.Invoke kind k args) a (record a { result = kind_of p k.signature.result })
      same = record { long = refl; others = λ x w. inl refl; caught = refl; receiver = refl }

-- ---- a call that does nothing is no call of a constructor

module _ (p : Program) (fits : is_well_formed p ≡ true) (marks : List Bool) where
  module _ (callee : ℕ) (q : MethodName) (is_q : slice_get p.methods callee ≡ Some q) where
    ordinary_name : is_constructor p q ≡ false → is_constructor_name (naming.method_at p callee).name ≡ false
    ordinary_name e = ap (λ (k : MethodKey). is_constructor_name k.name) (method_is p (sound p fits) callee q is_q) ∙ by (slice_get p.strings q.name) refl e
      where
        by : (x : Option (List ℕ)) → slice_get p.strings q.name ≡ x → (elim x as (λ x. Bool) [ Some units ↦ is_init units | None ↦ true ]) ≡ false → is_constructor_name (text_at p q.name) ≡ false
        by None i j = absurd (true≢false j)
        by (Some units) i j = ap (λ (y : Option (List ℕ)). is_constructor_name (elim y as (λ y. Text) [ Some t ↦ t | None ↦ [] ])) i ∙ j

    found_ordinary : (x : Option MethodAt) → is_quiet_found p marks false q x ≡ true → is_constructor_name (naming.method_at p callee).name ≡ false
    found_ordinary None e = absurd (true≢false (sym e))
    found_ordinary (Some at) e = ordinary_name (not_true (is_constructor p q) (and_left (not (is_constructor p q)) (is_quiet_target p marks false at.class (look.method_at p at)) e))

  named_ordinary : (callee : ℕ) → is_quiet_named p marks false callee (slice_get p.methods callee) ≡ true → is_constructor_name (naming.method_at p callee).name ≡ false
  named_ordinary callee e = by (slice_get p.methods callee) refl e
    where
      by : (x : Option MethodName) → slice_get p.methods callee ≡ x → is_quiet_named p marks false callee x ≡ true → is_constructor_name (naming.method_at p callee).name ≡ false
      by None i j = absurd (true≢false (sym j))
      by (Some q) i j = found_ordinary callee q i (finds_static p callee) j

  virtual_ordinary : (callee : ℕ) → is_quiet_virtual p marks (slice_get p.methods callee) ≡ true → is_constructor_name (naming.method_at p callee).name ≡ false
  virtual_ordinary callee e = by (slice_get p.methods callee) refl e
    where
      below : (q : MethodName) (class : ℕ) (x : Option MethodAt) → slice_get p.methods callee ≡ Some q → is_quiet_for_all p marks q class x ≡ true → is_constructor_name (naming.method_at p callee).name ≡ false
      below q class None i j = absurd (true≢false (sym j))
      below q class (Some at) i j = found_ordinary callee q i (Some at) (and_left (is_quiet_found p marks false q (Some at)) (not (is_overridden p q class at)) j)

      placed : (q : MethodName) (x : Option ℕ) → slice_get p.methods callee ≡ Some q → is_quiet_under p marks q x ≡ true → is_constructor_name (naming.method_at p callee).name ≡ false
      placed q None i j = absurd (true≢false (sym j))
      placed q (Some class) i j = below q class (finds_virtual p q.name q.proto class) i (and_right (not (interface_at p class)) (is_quiet_for_all p marks q class (finds_virtual p q.name q.proto class)) j)

      by : (x : Option MethodName) → slice_get p.methods callee ≡ x → is_quiet_virtual p marks x ≡ true → is_constructor_name (naming.method_at p callee).name ≡ false
      by None i j = absurd (true≢false (sym j))
      by (Some q) i j = placed q (class_place p q.class) i j

  call_ordinary : (o : Option Frame) (kind : InvokeKind) (callee : ℕ) (args : List ℕ) → is_idle_call p marks o kind callee args ≡ true → (is_constructor_name (naming.method_at p callee).name && not (is_static_call kind)) ≡ false
  call_ordinary o call.Static callee args e = static (is_constructor_name (naming.method_at p callee).name)
    where
      static : (z : Bool) → (z && false) ≡ false
      static true = refl
      static false = refl
  call_ordinary o call.Direct callee args e = ap (λ z. z && true) (named_ordinary callee (and_right (has_object o args) (is_quiet_named p marks false callee (slice_get p.methods callee)) e))
  call_ordinary o call.Virtual callee args e = ap (λ z. z && true) (virtual_ordinary callee (and_right (has_object o args) (is_quiet_virtual p marks (slice_get p.methods callee)) e))
  call_ordinary o kind callee args e = absurd (true≢false (sym e))

  -- ---- positions

  module _ (b : Body) (places : TakesInPlace (body_of p b)) where
    abbrev d : NamedBody
    d = body_of p b

    record UnreadAt (n r : ℕ) : Type 0 where
      op : BinaryOp
      to : ℕ
      x : ℕ
      y : ℕ
      there : slice_get b.insns n ≡ Some (insn.Binary op to x y)
      divides_so : divides op ≡ true
      inside : r < b.registers
      not_read : IsRead b r (n + 1) → ⊥

    -- what a position leaves that does nothing
    record Leaves (n : ℕ) (f : Form) : Type 0 where
      goes : continues f ≡ true
      keeps : (c : NamedClass) (m : NamedMethod) (a : Kinds) → is_allowed (named p) c m a f ≡ true → is_wrong (named p) c m a f ≡ false → Vanishes f a (after (named p) c n f a)
      bare : takes_result (form_at d (n + 1)) ≡ false
      unread : (r : ℕ) → writes f r ≡ true → UnreadAt n r

    read_behind : (n r : ℕ) (f : Form) → form_at d n ≡ Some f → continues f ≡ true → IsRead b r (n + 1) → by_name.IsReadAfter d r n
    read_behind n r f e goes i = (n + 1, goes_onward d n f e (n + 1) (goes_next f n goes), (read_by_number p b r (n + 1)).1 i)

    leaves : (o : Option Frame) (n : ℕ) (i : Insn) → slice_get b.insns n ≡ Some i → form_at d n ≡ Some (form_of p i) → DoesNothing p marks o b n i → Leaves n (form_of p i)
    leaves o n (insn.Invoke kind callee args) e h z = record {
      goes = refl;
      keeps = λ c m a allowed right. call_vanishes (named p) c m n a kind (naming.method_at p callee) args (call_ordinary o kind callee args z.1);
      bare = ap takes_result (form_there p b (n + 1)) ∙ (same_takes p (slice_get b.insns (n + 1)) ∙ z.0);
      unread = λ r w. absurd (true≢false (sym w));
    }
    leaves o n (insn.Binary op to x y) e h z = record {
      goes = refl;
      keeps = λ c m a allowed right. division_vanishes (named p) c m n a op to x y z.0 allowed right;
      bare = not_true (takes_result (form_at d (n + 1))) (all_in (takes_none d) (onward (form.Binary op to x y) n) (n + 1) (goes_next (form.Binary op to x y) n refl) (places.onward n (form.Binary op to x y) h refl));
      unread = λ r w. record {
        op = op;
        to = to;
        x = x;
        y = y;
        there = e;
        divides_so = z.0;
        inside = z.2.inside r w;
        not_read = λ i. z.2.unread r w ((read_after_by_number p b r n).0 (read_behind n r (form.Binary op to x y) h refl i));
      };
    }
    leaves o n i e h z = absurd z

    record InsnAt (n : ℕ) (f : Form) : Type 0 where
      insn : Insn
      there : slice_get b.insns n ≡ Some insn
      is : form_of p insn ≡ f

    insn_at : (n : ℕ) (f : Form) → form_at d n ≡ Some f → InsnAt n f
    insn_at n f e = by (slice_get b.insns n) refl (sym (form_there p b n) ∙ e)
      where
        by : (o : Option Insn) → slice_get b.insns n ≡ o → ◌≡◌ {A = Option Form} (option_map (form_of p) o) (Some f) → InsnAt n f
        by None i j = none_some f j
        by (Some x) i j = record { insn = x; there = i; is = some_same (form_of p x) f j }

    module _ (at : ℕ → Option Frame) (idle : ℕ → Bool) (are : (n : ℕ) (i : Insn) → slice_get b.insns n ≡ Some i → (idle n ≡ true) ↔ IsIdle p marks (at n) b n i) (l : Living b) where
      record Gone_here (n : ℕ) (f : Form) : Type 0 where
        small : is_small b ≡ true
        leaves : Leaves n f

      gone_here : (n : ℕ) (f : Form) → form_at d n ≡ Some f → idle n ≡ true → Gone_here n f
      gone_here n f e on =
          let i = insn_at n f e in
          let h = (are n i.insn i.there).0 on in
          record { small = h.small; leaves = subst (Leaves n) i.is (leaves (at n) n i.insn i.there (e ∙ ap Some (sym i.is)) h.nothing) }

      module _ (c : NamedClass) (m : NamedMethod) (t : Table) (typing : IsTyping (named p) c m (body_of p b) t) where
        hides : HidesSo (named p) c m (raised (named p) (body_of p b).forms t) l.live idle (body_of p b)
        hides = record {
          read = λ n f r e j. l.lives.yes n r ((read_by_number p b r n).0 (n, by_name.Here n f e j));
          on = λ n q f r e i live w. l.lives.grows n q r (λ k. let z = (read_by_number p b r q).1 k in (read_by_number p b r n).0 (z.0, by_name.Onward n q z.0 f e w i z.1)) live;
          thrown = λ n q f r e i live. l.lives.grows n q r (λ k. let z = (read_by_number p b r q).1 k in (read_by_number p b r n).0 (z.0, by_name.Caught n q z.0 f e i z.1)) live;
          goes = λ n f e on. (gone_here n f e on).leaves.goes;
          keeps = λ n f a e on allowed right. (gone_here n f e on).leaves.keeps c m a allowed right;
          bare = λ n f k e on i. raised_bare (named p) (body_of p b).forms t (n + 1) k (gone_here n f e on).leaves.bare i;
          unread = λ n f r e on w. let g = gone_here n f e on in let u = g.leaves.unread r w in l.lives.none (n + 1) r n u.op u.to u.x u.y g.small u.there u.divides_so u.inside u.not_read;
        }

        nopped_typing : IsTyping (named p) c m (body_of p (body_nopped idle b)) (veiled_table l.live (raised (named p) (body_of p b).forms t))
        nopped_typing = subst (λ d. IsTyping (named p) c m d (veiled_table l.live (raised (named p) (body_of p b).forms t))) (sym (nopped_named p idle b))
            (emptied_typing (named p) c m (body_of p b) (raised (named p) (body_of p b).forms t) (raised_typing (named p) c m (body_of p b) places t typing) l.live idle hides)

  -- ---- programs

  module _ (frames : Frames) (typed : IsTyped (named p)) where
    record NopsNamed (k : MethodKey) (x y : Option NamedBody) : Type 0 where
      before : Option Body
      behind : Option Body
      old : x ≡ option_map (body_of p) before
      new : y ≡ option_map (body_of p) behind
      nops : QuietedCode p marks frames k before behind

    nops_named : (k : MethodKey) (x y : Option Body) → QuietedCode p marks frames k x y → NopsNamed k (option_map (body_of p) x) (option_map (body_of p) y)
    nops_named k x y h = record { before = x; behind = y; old = refl; new = refl; nops = h }

    new_typed : (c : NamedClass) (m : NamedMethod) (b : NamedBody) → Contains (named p).classes c → Contains c.methods m → NopsNamed (key_in c m) m.body (Some b) → (t : Table) × IsTyping (named p) c m b t
    new_typed c m b i j h = by h.before h.behind h.nops h.old h.new
      where
        by : (x y : Option Body) → QuietedCode p marks frames (key_in c m) x y → m.body ≡ option_map (body_of p) x → ◌≡◌ {A = Option NamedBody} (Some b) (option_map (body_of p) y) → (t : Table) × IsTyping (named p) c m b t
        by _ _ NoCode e n = absurd (cc)
        by _ _ (Same a) e n = subst (λ z. (t : Table) × IsTyping (named p) c m z t) (sym (some_same b (body_of p a) n)) (typed.bodies c m (body_of p a) i j e)
        by _ _ (Quieted class c' m' a is_class in_class has_code is_key idle are live live_in) e n =
            let t = typed.bodies c m (body_of p a) i j e in
            let l = living a live live_in in
            subst (λ z. (t : Table) × IsTyping (named p) c m z t) (sym (some_same b (body_of p (body_nopped idle a)) n)) (
              veiled_table l.live (raised (named p) (body_of p a).forms t.0),
              nopped_typing a (well_placed p fits c m (body_of p a) i j e) (λ n. frame_at frames m'.name n) idle are l c m t.0 t.1,
            )

    pub quieted_typed : (q : Program) → OtherNumberedBodies (QuietedCode p marks frames) p q → IsTyped (named q)
    quieted_typed q h = others_typed NopsNamed (named p) (named q) (others_named (QuietedCode p marks frames) NopsNamed p nops_named q h) new_typed
