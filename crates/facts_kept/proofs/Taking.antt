-- A result that is taken arrives by names as by number: what a filled array is, what a call gives that it may enter, and anything
-- where it may leave the program.
use Rattle.std.proofs.Common.{◌≡◌, ℕ, ◌+◌, ◌<◌, Bool, true, false, List, length, refl, sym, ap, ◌∙◌, subst}
use Rattle.std.specs.Prelude.{if◌then◌else◌, slice_get}
use Rattle.lemmas.proofs.Lists.{get_map}
use Rattle.lemmas.proofs.Options.{before_map, some_same}
use Rattle.insn_set.specs.Widths.{is_wide_slot}
use Rattle.insn_set.specs.declared.form.Insn.{Insn}
use Rattle.insn_set.specs.declared.form.Insn.TheVariants as insn
use Rattle.insn_set.specs.declared.ops.InvokeKind.{InvokeKind}
use Rattle.insn_set.specs.declared.ops.Slot.{Slot}
use Rattle.insn_set.specs.declared.ops.Slot.TheVariants as slot
use Rattle.program_model.specs.OperandRules.{numbers_fit}
use Rattle.program_model.specs.declared.pass.Outside.{Outside}
use Rattle.program_model.specs.declared.program.Program.{Program}
use Rattle.class_defs.proofs.WellFormed.{below, Sound}
use Rattle.call_graph.specs.declared.live_set.LiveSet.{LiveSet}
use Rattle.call_targets.specs.Targeted.{IsTargeted}
use Rattle.dalvik_defs.specs.Find.{Found}
use Rattle.dalvik_defs.specs.Names.{Text}
use Rattle.dalvik_defs.specs.Naming.{form_of, named, type_at}
use Rattle.dalvik_defs.specs.Outer.{outer_of}
use Rattle.dalvik_defs.specs.declared.forms.Form.{Form}
use Rattle.dalvik_defs.specs.declared.forms.Form.TheVariants as form
use Rattle.dalvik_defs.specs.declared.names.MethodKey.{MethodKey}
use Rattle.dalvik_defs.specs.declared.program.NamedBody.{NamedBody}
use Rattle.domains.specs.Values.{Parts, any_value}
use Rattle.dom_frame.specs.Registers.{put_sized}
use Rattle.facts.specs.declared.facts.Facts as table
use Rattle.call_targets.specs.declared.table.Targets.{Targets}
use Rattle.closed_facts.specs.Closed.{ReachesLive}
use Rattle.closed_facts.specs.Flows as number
use Rattle.closed_facts.specs.Tables as tables
use Rattle.closed_facts.specs.Tables.{registers_at, result_at}
use Rattle.pass_defs.specs.Facts.{Facts}
use Rattle.reach.specs.Marked.{IsMarked}
use Rattle.reach_bridge.proofs.Based.{S}
use Rattle.run_facts.specs.Closed as name
use Rattle.facts_kept.specs.Names.{is_coded, method_number, named_facts, result_by, values, values_of}
use Rattle.facts_kept.proofs.Calling.{Goes}
use Rattle.facts_kept.proofs.Entering.{may_goes, may_leave}
use Rattle.facts_kept.proofs.Fits.{all_fit}
use Rattle.facts_kept.proofs.Inverse.{IsCall, of_call, of_taking}
use Rattle.facts_kept.proofs.Numbers.{number_of_method}
use Rattle.facts_kept.proofs.Places.{CodedAt, Here, arrives_named, at_number, here_at, looked_up}
use Rattle.facts_kept.proofs.Registers.{sized_same}
use Rattle.facts_kept.proofs.Values.{made_same}

slot_same : (p : Program) (s : Slot) → name.is_wide_slot (values p) s ≡ is_wide_slot s
slot_same p slot.Wide = refl
slot_same p s = refl

-- the type of a filled array
record IsFilled (p : Program) (i : Insn) (kind : Text) : Type 0 where
  pub type : ℕ
  pub args : List ℕ
  pub is : i ≡ insn.FilledNewArray type args
  pub named : type_at p type ≡ kind

of_filled : (p : Program) (i : Insn) (kind : Text) (args : List ℕ) → form_of p i ≡ form.FilledNewArray kind args → IsFilled p i kind
of_filled p (insn.FilledNewArray k rs) kind args e = let n : type_at p k ≡ kind = cc in record { type = k; args = rs; is = refl; named = n }
of_filled p i kind args e = absurd (cc)

module _ (p : Program) (s : Sound p) (t : table.Facts) where
  -- another position of the same code
  record Beside (k : MethodKey) (b : NamedBody) (c : CodedAt p s k b) (n : ℕ) (h : name.At (values p) (named p) (named_facts p t) k n) : Type 0 where
    pub here : tables.At p t c.at n
    pub form_is : form_of p here.insn ≡ h.form
    pub registers_are : values_of here.registers ≡ h.registers

  beside : (k : MethodKey) (b : NamedBody) (c : CodedAt p s k b) (n : ℕ) (h : name.At (values p) (named p) (named_facts p t) k n) → h.body ≡ b → Beside k b c n h
  beside k b c n h same =
      let x = before_map values_of (registers_at t c.method.name n) h.registers (sym (at_number p s t k c.method.name n c.number) ∙ h.reached) in
      let i = before_map (form_of p) (slice_get c.body.insns n) h.form (sym (get_map (form_of p) c.body.insns n) ∙ ap (λ (b : NamedBody). slice_get b.forms n) (c.body_is ∙ sym same) ∙ h.has_form) in
      record {
        here = record {
          method = c.method;
          body = c.body;
          insn = i.0;
          registers = x.0;
          has_method = looked_up p s c.at c.class c.method c.is_class c.is_method;
          has_body = c.has_body;
          has_insn = i.1.0;
          reached = x.1.0;
        };
        form_is = i.1.1;
        registers_are = x.1.1;
      }

  module _ (targets : Targets) (flows : number.Flows p targets t) where
    taken_by : (k : MethodKey) (n to : ℕ) (r : Slot) (v : Parts) (at : name.At (values p) (named p) (named_facts p t) k n) (taker : name.At (values p) (named p) (named_facts p t) k (n + 1)) → taker.form ≡ form.MoveResult r to
        → (h : Here p s t k n at) → number.Results p targets t h.code.at.class h.here.insn v
        → name.Arrives (values p) (name.put_sized (values p) (name.is_wide_slot (values p) r) to v taker.registers) ((named_facts p t).registers k (n + 2))
    taken_by k n to r v at taker e h results =
        let b = beside k at.body h.code (n + 1) taker (some_same taker.body at.body (sym taker.has_body ∙ at.has_body)) in
        let arrives = flows.taken h.code.at n to r v h.here b.here (of_taking p b.here.insn r to (b.form_is ∙ e)) results in
        subst (λ x. name.Arrives (values p) (name.put_sized (values p) (name.is_wide_slot (values p) r) to v x) ((named_facts p t).registers k (n + 2))) b.registers_are
        (subst (λ x. name.Arrives (values p) x ((named_facts p t).registers k (n + 2)))
        (sym (ap (λ w. name.put_sized (values p) w to v (values_of b.here.registers)) (slot_same p r) ∙ sized_same (values p) refl (is_wide_slot r) to v b.here.registers))
        (arrives_named p s t k h.here.method.name (n + 2) (put_sized (is_wide_slot r) to v b.here.registers) h.number arrives))

filled_low : (p : Program) (kind : ℕ) (args : List ℕ) → numbers_fit (insn.FilledNewArray kind args) p ≡ true → kind < length p.types
unfolding numbers_fit
filled_low p kind args h = below kind (length p.types) h

-- ---- all that may be taken

module _ (p : Program) (o : Outside) (live : LiveSet) (g : IsMarked p o live) (targets : Targets) (exact : IsTargeted p o live targets) (t : table.Facts) (lives : ReachesLive p live t) (flows : number.Flows p targets t) where
  abbrev s : Sound p
  s = S p o live g

  abbrev facts : Facts Parts
  facts = named_facts p t

  -- of a method without code no result is known
  result_is : (k : MethodKey) → (b : Bool) → is_coded p k ≡ b → facts.results k ≡ (if b then result_by t (method_number p k) else any_value)
  result_is k b e = ap (λ b. if b then result_by t (method_number p k) else any_value) e

  module _ (k : MethodKey) (n to : ℕ) (r : Slot) (at : name.At (values p) (named p) facts k n) (taker : name.At (values p) (named p) facts k (n + 1)) (e : taker.form ≡ form.MoveResult r to) where
    h : Here p s t k n at
    h = here_at p s t k n at

    abbrev Taken : Parts → Type 0
    Taken v = name.Arrives (values p) (name.put_sized (values p) (name.is_wide_slot (values p) r) to v taker.registers) (facts.registers k (n + 2))

    taken : (v : Parts) (i : Insn) → h.here.insn ≡ i → number.Results p targets t h.code.at.class i v → Taken v
    taken v i is results = taken_by p s t targets flows k n to r v at taker e h (subst (λ i. number.Results p targets t h.code.at.class i v) (sym is) results)

    given : (kind : InvokeKind) (m : MethodKey) (args : List ℕ) (f : Found) → at.form ≡ form.Invoke kind m args → name.MayCall (values p) (named p) (outer_of p o) k.class at.registers args kind m f → Taken (facts.results f.key)
    given kind m args f is may = by (is_coded p f.key) refl
      where
        c : IsCall p h.here.insn kind m args
        c = of_call p h.here.insn kind m args (h.form_is ∙ is)

        goes : Goes p s g.once targets h.code.at.class c.method kind f
        goes = may_goes p o live g targets exact t lives k m n at h kind args c f may

        by : (b : Bool) → is_coded p f.key ≡ b → Taken (facts.results f.key)
        by true coded =
            let x = goes.enters (sym goes.has_code ∙ coded) in
            subst Taken (sym (result_is f.key true coded ∙ ap (result_by t) (number_of_method p s f.key x.own x.is_number)))
            (taken (result_at t x.own) (insn.Invoke kind c.method args) c.is (number.Given kind c.method x.own args f.coded x.may))
        by false coded =
            subst Taken (sym (result_is f.key false coded))
            (taken any_value (insn.Invoke kind c.method args) c.is (number.Left kind c.method args (goes.leaves (sym goes.has_code ∙ coded))))

    left : (kind : InvokeKind) (m : MethodKey) (args : List ℕ) → at.form ≡ form.Invoke kind m args → name.MayLeave (values p) (named p) (outer_of p o) k.class at.registers args kind m → Taken any_value
    left kind m args is may =
        let c = of_call p h.here.insn kind m args (h.form_is ∙ is) in
        taken any_value (insn.Invoke kind c.method args) c.is (number.Left kind c.method args (may_leave p o live g targets exact t lives k m n at h kind args c may))

    filled : (kind : Text) (args : List ℕ) → at.form ≡ form.FilledNewArray kind args → Taken ((values p).made kind)
    filled kind args is =
        let x = of_filled p h.here.insn kind args (h.form_is ∙ is) in
        let low = filled_low p x.type x.args (subst (λ i. numbers_fit i p ≡ true) x.is (all_fit p s t h.code.at n h.here)) in
        taken ((values p).made kind) (insn.FilledNewArray x.type x.args) x.is
        (subst (λ v. number.Results p targets t h.code.at.class (insn.FilledNewArray x.type x.args) v) (sym (made_same p s x.type low) ∙ ap (values p).made x.named) (number.Filled x.type x.args))

    pub taken_named : (v : Parts) → name.Results (values p) (named p) (outer_of p o) facts k at.registers at.form v → Taken v
    taken_named v results = by at.form refl v results
      where
        by : (f : Form) → at.form ≡ f → (v : Parts) → name.Results (values p) (named p) (outer_of p o) facts k at.registers f v → Taken v
        by f is v (name.Given kind m args x may) = given kind m args x is may
        by f is v (name.Left kind m args may) = left kind m args is may
        by f is v (name.Filled kind args) = filled kind args is
