-- What is known of the states of a run: receivers of sites aren't null, and wides that are given back are whole.
use Rattle.std.proofs.Common.{◌≡◌, ◌⊎◌, inl, inr, ℕ, zero, suc, ◌+◌, ◌<◌, Bool, true, false, true≢false, List, [], ◌∷◌, length, map, Option, Some, refl, sym, ap, ap₂, ◌∙◌, subst, nat_eq}
use Rattle.std.specs.Prelude.{◌&&◌, ◌||◌, is_some, slice_get, slice_index_or}
use Rattle.std.specs.List.{list_any, list_all}
use Rattle.std.specs.Option.{option_map, option_and_then}
use Rattle.std.proofs.lemmas.Bool.{eqb-true}
use Rattle.lemmas.proofs.Bools.{and_left, and_right, neither_of, not_false, or_left}
use Rattle.lemmas.proofs.Lists.{get_map, got_short}
use Rattle.lemmas.proofs.Numbers.{same_number}
use Rattle.lemmas.proofs.Options.{none_some, some_same}
use Rattle.insn_set.specs.Widths.{is_wide_slot}
use Rattle.insn_set.specs.declared.ops.Slot.{Slot}
use Rattle.insn_set.specs.declared.ops.Slot.TheVariants as slot
use Rattle.insn_set.specs.declared.ops.InvokeKind.TheVariants as call
use Rattle.insn_set.specs.declared.form.Insn.{Insn}
use Rattle.insn_set.specs.declared.form.Insn.TheVariants as insn
use Rattle.program_model.specs.MemberRules.{has_flag}
use Rattle.program_model.specs.ProgramRules.{is_well_formed}
use Rattle.program_model.specs.declared.program.Program.{Program}
use Rattle.class_defs.specs.ClassGraph.{IsAncestor}
use Rattle.class_defs.proofs.WellFormed.{sound, class_parts}
use Rattle.hierarchy.specs.Shapes.{IsResolved}
use Rattle.hierarchy.specs.declared.build.Hierarchy.{Hierarchy}
use Rattle.domains.specs.Datum.{Plain, Single, Within}
use Rattle.domains.specs.Values.{Parts, value_holds}
use Rattle.dom_frame.specs.Registers.{value_at}
use Rattle.dom_frame.specs.declared.frames.Frame.{Frame as Values}
use Rattle.facts.specs.Lent.{frame_at}
use Rattle.facts.specs.declared.facts.Facts.{Facts}
use Rattle.dalvik_defs.specs.Names.{Text, is_wide}
use Rattle.dalvik_defs.specs.Naming.{type_at, method_at, form_of, body_of, named, named_class, named_method}
use Rattle.dalvik_defs.specs.Effect.{register}
use Rattle.dalvik_defs.specs.Outcome.{receiver}
use Rattle.dalvik_defs.specs.Outer.{Outer}
use Rattle.dalvik_defs.specs.Face.{Bodies, face_of, bodies_of}
use Rattle.dalvik_defs.specs.Find.{found_in}
use Rattle.dalvik_defs.specs.Happens.{Setting}
use Rattle.dalvik_defs.specs.Initialised.{is_trivial}
use Rattle.dalvik_defs.specs.Quiet.{quiet_within, calm_opening}
use Rattle.dalvik_defs.specs.Shown.{Fit}
use Rattle.dalvik_defs.specs.Stack.{form_at as form_here}
use Rattle.dalvik_defs.specs.State.{World, Classes, State, On, Ended, kind_of, is_null}
use Rattle.dalvik_defs.specs.Step.{after, step, setting_of}
use Rattle.dalvik_defs.specs.declared.names.MethodKey.{MethodKey}
use Rattle.dalvik_defs.specs.declared.forms.Form.{Form}
use Rattle.dalvik_defs.specs.declared.forms.Form.TheVariants as form
use Rattle.dalvik_defs.specs.declared.script.Move.{Move}
use Rattle.dalvik_defs.specs.declared.state.Frame.{Frame}
use Rattle.dalvik_defs.specs.declared.state.Value.{Value}
use Rattle.dalvik_defs.specs.declared.state.Value.TheVariants.{Word, Low, High}
use Rattle.dalvik_defs.specs.declared.state.Waiting.{Waiting}
use Rattle.dalvik_defs.specs.declared.state.Waiting.TheVariants.{Method as OfMethod}
use Rattle.dalvik_defs.specs.declared.program.NamedBody.{NamedBody}
use Rattle.dalvik_defs.specs.declared.tables.Floats.{Floats}
use Rattle.dalvik_defs.specs.declared.tables.Framework.{Framework}
use Rattle.dalvik_defs.proofs.Quiet.{trivial_quiet}
use Rattle.pass_defs.specs.Analysis.{Analysis}
use Rattle.pass_defs.specs.Bare.{reads}
use Rattle.pass_defs.specs.Demands.{Pair, Fits, meets, wide_or, of_type, demands, place_allowed}
use Rattle.pass_defs.specs.Facts as by_name
use Rattle.pass_defs.specs.Inlined as inlining
use Rattle.pass_defs.specs.Kinds.{Kind, Undefined, kind_eq}
use Rattle.pass_defs.specs.Kinds as kind
use Rattle.pass_defs.specs.Registers.{kind_at}
use Rattle.pass_defs.specs.Typed.{wrong_return, ends_early, IsTyped}
use Rattle.pass_defs.specs.Walks.{form_at}
use Rattle.run_laws.specs.Holds.{Each, Holds as HoldsBy}
use Rattle.run_laws.proofs.Invariants.{holds_after}
use Rattle.run_laws.proofs.Plain.{grown, keeps_plainly}
use Rattle.run_facts.specs.Covered.{CoversTop}
use Rattle.run_facts.specs.ValueAnalysis.{datum_of, value_analysis}
use Rattle.run_laws.specs.TypedStates.{AllHold, TypedFrame, typed_states}
use Rattle.run_laws.proofs.Here.{At, at_form}
use Rattle.run_laws.proofs.Runs.{settled, keeps_typed, typed_opening, each_move}
use Rattle.run_laws.proofs.Searches.{finds_regularly}
use Rattle.run_laws.proofs.Settled.{IsSettled, FindsRegularly}
use Rattle.run_laws.proofs.Wides.{wides_held}
use Rattle.removal_bridge.proofs.TypedFormed.{regular_program}
use Rattle.form_laws.proofs.Asking.{low_is, high_is}
use Rattle.name_bridge.proofs.Above.{own_place}
use Rattle.name_bridge.proofs.Started.{trivial_by_number}
use Rattle.bodies_kept.proofs.Rooted.{rooted}
use Rattle.cover_law.specs.Coverable.{IsCoverable}
use Rattle.cover_law.specs.Known.{RangedMove}
use Rattle.cover_law.specs.States.{covered_states}
use Rattle.cover_law.specs.Operators.{operators}
use Rattle.inline_law.proofs.Unread.{unread}
use Rattle.inline_law.specs.Entered.{Enterable, Statically, Directly, AreEnterable, FactsHold}
use Rattle.program_laws.specs.Numbered.{OtherNumberedBodies}
use Rattle.facts_kept.specs.Folds.{AreNamed, StandsAt}
use Rattle.facts_kept.proofs.Covered.{one_more, covered_calm}
use Rattle.splice.specs.declared.callee.Callee.{Callee}
use Rattle.splice.specs.Moves.{parameters_of}
use Rattle.calls_kept.specs.Sites.{Calls, Passed, Behind, NeverNull, receiver_of}
use Rattle.calls_kept.specs.Sites as by_number
use Rattle.calls_kept.proofs.Sites.{found_callee, statically, flag_same, body_is}
use Rattle.calls_kept.specs.Spliced.{SplicesSo}
use Rattle.calls_kept.proofs.InlinedNamed.{contains_at, AtSite, sites, at_a_site}

null_word : (v : Value) → is_null v ≡ true → v ≡ Word 0
null_word (Word n) e = ap Word (eqb-true n 0 e)
null_word v e = absurd (true≢false (sym e))

-- a wide return is one of a method that gives a wide
return_wide : (s : Slot) (t : Text) → wrong_return s t ≡ false → is_wide_slot s ≡ true → is_wide t ≡ true
return_wide slot.Wide t e w = not_false (is_wide t) e
return_wide slot.Word t e w = absurd (true≢false (sym w))
return_wide slot.Object t e w = absurd (true≢false (sym w))

module _ (p : Program) (h : Hierarchy) (w : is_well_formed p ≡ true) (resolved : IsResolved p h) (ancestor : (class : ℕ) → IsAncestor p class class → ⊥) (typed : IsTyped (named p)) (facts : Facts)
    (q : Program) (others : OtherNumberedBodies (SplicesSo p h facts) p q) where
  abbrev pub level : ℕ
  level = suc (length (named p).classes)

  site_at : (k : MethodKey) (n : ℕ) (y : inlining.Callee) → sites p h w resolved typed facts q others k n ≡ Some y → AtSite p h w resolved typed facts q others k n y
  site_at = at_a_site p h w resolved typed facts q others

  module _ (k : MethodKey) (n : ℕ) (y : inlining.Callee) (a : AtSite p h w resolved typed facts q others k n y) where
    form_there : form_at (body_of p a.body) n ≡ Some (form_of p a.site.insn)
    form_there = get_map (form_of p) a.body.insns n ∙ ap (option_map (form_of p)) a.site.here

    here_form : (g : Frame) → g.method ≡ k → g.position ≡ n → form_here (bodies_of (named p)) g ≡ Some (form_of p a.site.insn)
    here_form g e i = ap₂ (λ z (j : ℕ). option_and_then (λ (b : NamedBody). slice_get b.forms j) z) (ap (bodies_of (named p)) e ∙ a.found) i ∙ form_there

    -- ---- classes that are initialised trivially

    trivial : has_flag a.callee.method.now.flags 8 ≡ true → is_trivial (named p) (type_at p a.class.name) ≡ true
    trivial e =
        let low = got_short p.classes a.at.class a.class a.is_class in
        trivial_by_number p (sound p w) resolved.of.once a.class.name a.at.class (class_parts p (sound p w) a.at.class a.class a.is_class).name (own_place p resolved.of.once a.at.class a.class a.is_class)
        ∙ sym (resolved.trivial.is a.at.class low) ∙ ap (λ z. slice_index_or h.starts.trivial.items z false) (sym a.site.beside) ∙ a.site.static e

    enterable : (f : Framework) → (static : Bool) (i : Insn) → has_flag a.callee.method.now.flags 8 ≡ static → Calls p a.site.place a.site.args static i
        → Enterable (face_of (named p) f) (quiet_within (face_of (named p) f) level) (found_callee p h w resolved typed facts a.at a.class a.method a.body a.is_class a.is_method a.has n a.callee a.site) (form_of p i)
    enterable f _ _ e (by_number.Statically method x) =
        Statically (method_at p method) (found_in (named_class p a.class) (named_method p a.callee.method.now)) (statically p h w resolved typed facts a.at a.class a.method a.body a.is_class a.is_method a.has n a.callee a.site method x) refl
        (ap is_some (body_is p h w resolved typed facts a.at a.class a.method a.body a.is_class a.is_method a.has n a.callee a.site))
        (sym (flag_same p h w resolved typed facts a.at a.class a.method a.body a.is_class a.is_method a.has n a.callee a.site) ∙ e)
        (trivial_quiet (named p) f (type_at p a.class.name) ((rooted p w resolved.of.once ancestor).ends (type_at p a.class.name)) (trivial e))
    enterable f _ _ e (by_number.Directly method x) =
        Directly (method_at p method) (found_in (named_class p a.class) (named_method p a.callee.method.now)) (statically p h w resolved typed facts a.at a.class a.method a.body a.is_class a.is_method a.has n a.callee a.site method x) refl
        (ap is_some (body_is p h w resolved typed facts a.at a.class a.method a.body a.is_class a.is_method a.has n a.callee a.site))
        (sym (flag_same p h w resolved typed facts a.at a.class a.method a.body a.is_class a.is_method a.has n a.callee a.site) ∙ e)

  pub all_enterable : (f : Framework) → AreEnterable (face_of (named p) f) (bodies_of (named p)) (quiet_within (face_of (named p) f) level) (sites p h w resolved typed facts q others)
  all_enterable f g y e =
      let a = site_at g.method g.position y e in (
        form_of p a.site.insn,
        (
          here_form g.method g.position y a g refl refl,
          subst (λ (z : inlining.Callee). Enterable (face_of (named p) f) (quiet_within (face_of (named p) f) level) z (form_of p a.site.insn)) (sym a.same)
              (enterable g.method g.position y a f (has_flag a.callee.method.now.flags 8) a.site.insn refl a.site.calls),
        ),
      )

  -- ---- a run

  module _ (o : Outer) (f : Framework) (floats : Floats) (script : List Move) where
    -- the states that a run reaches
    pub record Reaches (u : State) : Type 0 where
      pub count : ℕ
      pub at : u ≡ after (setting_of (named p) o f floats) (bodies_of (named p)) (calm_opening (quiet_within (face_of (named p) f) (suc (length (named p).classes))) script) count

    pub begins : Reaches (calm_opening (quiet_within (face_of (named p) f) (suc (length (named p).classes))) script)
    begins = record { count = 0; at = refl }

    reaches_on : (u : State) → Reaches u → Reaches (step (setting_of (named p) o f floats) (bodies_of (named p)) u).0
    reaches_on u r = record {
      count = suc r.count;
      at = ap (λ z. (step (setting_of (named p) o f floats) (bodies_of (named p)) z).0) r.at
          ∙ sym (one_more (setting_of (named p) o f floats) (bodies_of (named p)) (calm_opening (quiet_within (face_of (named p) f) (suc (length (named p).classes))) script) r.count);
    }

    -- a register that the facts know to hold no null at a site holds none
    abbrev pub KeepsNoNull : Type 0
    KeepsNoNull = (v : World) (c : Classes) (g : Frame) (rest : List Waiting) (moves : List Move) → Reaches (On v c (OfMethod g ∷ rest) moves) → (y : inlining.Callee)
        → (a : AtSite p h w resolved typed facts q others g.method g.position y) → (x : ℕ) → slice_get g.registers x ≡ Some (register g x) → NeverNull facts a.method.name g.position x → is_null (register g x) ≡ false

  -- facts without frames know nothing
  frameless : facts.frames.items ≡ [] → (method n r : ℕ) → NeverNull facts method n r → ⊥
  frameless none method n r never =
      let e : frame_at [] method n ≡ Some never.frame = subst (λ (items : List (List (Option Values))). frame_at items method n ≡ Some never.frame) none never.here in none_some never.frame e

  pub frameless_keeps : facts.frames.items ≡ [] → (o : Outer) (f : Framework) (floats : Floats) (script : List Move) → KeepsNoNull o f floats script
  frameless_keeps none o f floats script v c g rest moves r y a x there never = absurd (frameless none a.method.name g.position x never)

  -- facts that cover the run say what they say
  module _ (o : Outer) (f : Framework) (floats : Floats) (script : List Move) (t : by_name.Facts Parts) (names : AreNamed p o facts t) (base : IsCoverable (value_analysis (named p) operators) (named p) o f floats t)
      (fit : Fit (named p) o f script) (ranged : Each RangedMove script) where
    abbrev V : Analysis Parts
    V = value_analysis (named p) operators

    abbrev calm : Text → Bool
    calm = quiet_within (face_of (named p) f) level

    covered : (v : World) (c : Classes) (g : Frame) (rest : List Waiting) (moves : List Move) → Reaches o f floats script (On v c (OfMethod g ∷ rest) moves) → HoldsBy (covered_states V (named p) o f t) (On v c (OfMethod g ∷ rest) moves)
    covered v c g rest moves r = by (covered_calm V (named p) o f floats t script base fit calm ranged r.count)
      where
        by : (after (setting_of (named p) o f floats) (bodies_of (named p)) (calm_opening calm script) r.count ≡ Ended) ⊎ HoldsBy (covered_states V (named p) o f t) (after (setting_of (named p) o f floats) (bodies_of (named p)) (calm_opening calm script) r.count)
            → HoldsBy (covered_states V (named p) o f t) (On v c (OfMethod g ∷ rest) moves)
        by (inl e) = let k : On v c (OfMethod g ∷ rest) moves ≡ Ended = r.at ∙ e in absurd (cc)
        by (inr x) = subst (HoldsBy (covered_states V (named p) o f t)) (sym r.at) x

    pub covered_keeps : KeepsNoNull o f floats script
    covered_keeps v c g rest moves r y a x there never = by (is_null (register g x)) refl
      where
        top : CoversTop V (named p) o t v g
        top = (covered v c g rest moves r).1.0.1

        stands : StandsAt top.stands.registers (frame_at facts.frames.items a.method.name g.position)
        stands = names.frames a.at.class a.class a.method g.position top.stands.registers a.is_class (contains_at a.class.methods a.at.place a.method a.is_method)
            (sym (ap (λ k. t.registers k g.position) a.is_key) ∙ top.stands.reached)

        within : Within value_holds (top.stands.registers x) (value_at never.frame.registers x)
        within = let z : StandsAt top.stands.registers (Some never.frame) = subst (StandsAt top.stands.registers) never.here stands in z x

        by : (b : Bool) → is_null (register g x) ≡ b → b ≡ false
        by false e = refl
        by true e = absurd (never.never_null (within (Plain (Single 0)) (subst (λ z. value_holds (top.stands.registers x) (datum_of (named p) (kind_of v z) z)) (null_word (register g x) e) (top.stands.hold x (register g x) there))))

  module _ (o : Outer) (f : Framework) (floats : Floats) (script : List Move) (fit : Fit (named p) o f script) (no_null : KeepsNoNull o f floats script) where
    abbrev s : Setting
    s = setting_of (named p) o f floats

    abbrev find : Bodies
    find = bodies_of (named p)

    abbrev opened : State
    opened = calm_opening (quiet_within (face_of (named p) f) level) script

    reg : IsSettled (named p)
    reg = settled (named p) o f script (regular_program p w resolved.of.once typed) fit

    finds : FindsRegularly (named p) f
    finds = finds_regularly (named p) f reg

    abbrev Typed : State → Type 0
    Typed = HoldsBy (typed_states (named p) f o)

    -- each state of a run that begins with the calm classes done is typed, or it has ended
    typed_calm : (n : ℕ) → (after s find opened n ≡ Ended) ⊎ Typed (after s find opened n)
    typed_calm n = holds_after s find (grown s find (typed_states (named p) f o)) (keeps_plainly s find (typed_states (named p) f o) (keeps_typed (named p) o f floats reg finds)) n opened
        (typed_opening (named p) o f floats reg finds, (tt, refl), each_move (named p) o f floats reg finds script fit.values)

    typed_frame : (v : World) (c : Classes) (g : Frame) (rest : List Waiting) (moves : List Move) → Reaches o f floats script (On v c (OfMethod g ∷ rest) moves) → TypedFrame (named p) f v g
    typed_frame v c g rest moves r = (by (typed_calm r.count)).1.0
      where
        by : (after s find opened r.count ≡ Ended) ⊎ Typed (after s find opened r.count) → Typed (On v c (OfMethod g ∷ rest) moves)
        by (inl e) = let k : On v c (OfMethod g ∷ rest) moves ≡ Ended = r.at ∙ e in absurd (cc)
        by (inr x) = subst Typed (sym r.at) x

    -- ---- registers

    -- a register has no kind, or there is one
    in_range : (c : Text) (v : World) (ks : List Kind) (vs : List Value) (r : ℕ) → AllHold (named p) f c v ks vs → (kind_at ks r ≡ Undefined) ⊎ (slice_get vs r ≡ Some (slice_index_or vs r (Word 0)))
    in_range c v [] [] r x = inl refl
    in_range c v [] (u ∷ vs) r x = absurd x
    in_range c v (k ∷ ks) [] r x = absurd x
    in_range c v (k ∷ ks) (u ∷ vs) zero x = inr refl
    in_range c v (k ∷ ks) (u ∷ vs) (suc r) x = in_range c v ks vs r x.1

    module _ (v : World) (g : Frame) (td : TypedFrame (named p) f v g) where
      typed_form : (x : Form) → form_here find g ≡ Some x → At (named p) o f floats reg v g td x
      typed_form x e =
          let y = at_form (named p) o f floats reg v g td in
          subst (At (named p) o f floats reg v g td) (some_same y.0 x (sym y.1.has ∙ sym (ap (option_and_then (λ (b : NamedBody). slice_get b.forms g.position)) (ap find td.of ∙ td.in_method.has_body)) ∙ e)) y.1

      there_read : (x : Form) (r : ℕ) → At (named p) o f floats reg v g td x → reads x r ≡ true → slice_get g.registers r ≡ Some (register g r)
      there_read x r a e = by (in_range td.in_method.class.name v td.kinds.registers g.registers r td.holds.registers)
        where
          by : (kind_at td.kinds.registers r ≡ Undefined) ⊎ (slice_get g.registers r ≡ Some (register g r)) → slice_get g.registers r ≡ Some (register g r)
          by (inl u) = absurd (unread (named p) td.in_method.class td.in_method.method td.kinds r u x a.allowed a.right e)
          by (inr i) = i

      -- a wide that is given back is whole
      whole : (s : Slot) (from : ℕ) → is_wide_slot s ≡ true → At (named p) o f floats reg v g td (form.Return s from) → (n : ℕ) × ((register g from ≡ Low n) × (register g (from + 1) ≡ High n))
      whole s from wide a =
          let m = td.in_method.method in
          let right = neither_of (wrong_return s m.signature.result) (ends_early (named p) td.in_method.class m td.kinds) a.right in
          let result : is_wide m.signature.result ≡ true = return_wide s m.signature.result right.0 wide in
          let all = and_right (place_allowed td.kinds (form.Return s from)) (list_all (λ d. meets (named p) td.in_method.class td.kinds.registers d.0 d.1) (demands (named p) td.in_method.class m td.kinds.registers (form.Return s from))) a.allowed in
          let met = and_left (meets (named p) td.in_method.class td.kinds.registers from (of_type m.signature.result)) true all in
          let pair : meets (named p) td.in_method.class td.kinds.registers from Pair ≡ true = sym (ap (λ z. meets (named p) td.in_method.class td.kinds.registers from (wide_or z (Fits m.signature.result))) result) ∙ met in
          let low = low_is (kind_at td.kinds.registers from) (and_left (kind_eq (kind_at td.kinds.registers from) kind.Low) (kind_eq (kind_at td.kinds.registers (from + 1)) kind.High) pair) in
          let high = high_is (kind_at td.kinds.registers (from + 1)) (and_right (kind_eq (kind_at td.kinds.registers from) kind.Low) (kind_eq (kind_at td.kinds.registers (from + 1)) kind.High) pair) in
          (wides_held (named p) f v g td).registers from low high

    -- ---- receivers

    module _ (v : World) (c : Classes) (g : Frame) (rest : List Waiting) (moves : List Move) (r : Reaches o f floats script (On v c (OfMethod g ∷ rest) moves)) (y : inlining.Callee)
        (a : AtSite p h w resolved typed facts q others g.method g.position y) where
      td : TypedFrame (named p) f v g
      td = typed_frame v c g rest moves r

      here : form_here find g ≡ Some (form_of p a.site.insn)
      here = here_form g.method g.position y a g refl refl

      -- the receiver of a direct call that is a site
      direct : (static : Bool) (i : Insn) (args : List ℕ) → a.site.insn ≡ i → has_flag a.callee.method.now.flags 8 ≡ static → Calls p a.site.place args static i → args ≡ a.site.args
          → Passed p (parameters_of p a.callee.method.now.name) static args → (k : MethodKey) (rs : List ℕ) → form_of p i ≡ form.Invoke call.Direct k rs → is_null (receiver (map (register g) args)) ≡ false
      direct _ _ args j e (by_number.Statically method x) same pass k rs d = absurd (cc)
      direct _ _ _ j e (by_number.Directly method x) same (Behind on more held) k rs d =
          no_null v c g rest moves r y a on (there_read v g td (form_of p (insn.Invoke call.Direct method (on ∷ more))) on (typed_form v g td (form_of p (insn.Invoke call.Direct method (on ∷ more))) (here ∙ ap (λ z. Some (form_of p z)) j))
          (or_left (nat_eq on on) (list_any (λ b. nat_eq b on) more) (same_number on)))
          (subst (λ z. NeverNull facts a.method.name g.position (receiver_of z)) (sym same) (a.site.direct e))

    pub facts_hold : FactsHold (setting_of (named p) o f floats) (bodies_of (named p)) (sites p h w resolved typed facts q others) (Reaches o f floats script)
    facts_hold = record {
      receivers = λ v c g rest moves y k r e i.
          let a = site_at g.method g.position y e in
          let args : y.args ≡ a.site.args = ap (λ (z : inlining.Callee). z.args) a.same in
          let same = some_same (form_of p a.site.insn) (form.Invoke call.Direct k y.args) (sym (here v c g rest moves r y a) ∙ i) in
          subst (λ z. is_null (receiver (map (register g) z)) ≡ false) (sym args)
          (direct v c g rest moves r y a (has_flag a.callee.method.now.flags 8) a.site.insn a.site.args refl refl a.site.calls refl a.site.passes k y.args same);
      wholes = λ v c g u rest moves y s from r e m i wide.
          let x = typed_frame v c g (OfMethod u ∷ rest) moves r in
          whole v g x s from wide (typed_form v g x (form.Return s from) i);
      keeps = reaches_on o f floats script;
    }
