-- What a call passes, and that it enters a method, by names as by number: a call by number may enter what a call by names does, and
-- it may leave the program where that may.
use Rattle.std.proofs.Common.{◌≡◌, ℕ, ◌<◌, ◌⊎◌, inl, inr, Bool, true, false, List, [], ◌∷◌, length, Some, refl, sym, ap, ◌∙◌, subst, arith}
use Rattle.std.specs.Prelude.{if◌then◌else◌, is_some, slice_get}
use Rattle.std.proofs.lemmas.Int.{ints}
use Rattle.lemmas.proofs.Options.{mapped_some}
use Rattle.insn_set.specs.declared.form.Insn.TheVariants as insn
use Rattle.insn_set.specs.declared.ops.InvokeKind.{InvokeKind}
use Rattle.insn_set.specs.declared.ops.InvokeKind.TheVariants as call
use Rattle.program_model.specs.OperandRules.{numbers_fit}
use Rattle.program_model.specs.declared.pass.Outside.{Outside}
use Rattle.program_model.specs.declared.program.Program.{Program}
use Rattle.class_defs.proofs.WellFormed.{below, Sound}
use Rattle.call_graph.specs.declared.live_set.LiveSet.{LiveSet}
use Rattle.call_targets.specs.Targeted.{IsTargeted}
use Rattle.call_targets.specs.declared.table.Targets.{Targets}
use Rattle.dalvik_defs.specs.Find.{Found}
use Rattle.dalvik_defs.specs.Names.{Text}
use Rattle.dalvik_defs.specs.Naming.{named}
use Rattle.dalvik_defs.specs.Outer.{outer_of}
use Rattle.dalvik_defs.specs.declared.forms.Form.TheVariants as form
use Rattle.dalvik_defs.specs.declared.names.MethodKey.{MethodKey}
use Rattle.dalvik_defs.specs.declared.state.Value.{Value}
use Rattle.domains.specs.Datum.{Datum, Plain, Single, Double, Object, Within}
use Rattle.domains.specs.Values.{Parts, any_value, value_holds}
use Rattle.dom_frame.specs.Registers.{value_at}
use Rattle.dom_frame.specs.Steps.{receiver}
use Rattle.facts.specs.declared.facts.Facts as table
use Rattle.closed_facts.specs.Calls as number
use Rattle.closed_facts.specs.Closed.{ReachesLive}
use Rattle.closed_facts.specs.Found as found
use Rattle.closed_facts.specs.Tables.{parameter_at, registers_at}
use Rattle.pass_defs.specs.Facts.{Facts}
use Rattle.pass_defs.specs.Typed.{receiver_register}
use Rattle.reach.specs.Marked.{IsMarked}
use Rattle.reach_bridge.proofs.Based.{S}
use Rattle.run_facts.specs.Closed as name
use Rattle.run_facts.specs.ValueAnalysis.{datum_of}
use Rattle.facts_kept.specs.Names.{is_coded, method_number, named_facts, parameter_by, values, values_of}
use Rattle.facts_kept.proofs.Asking.{leaves_bare, leaves_by_way, leaves_interface, leaves_undefined, object_goes}
use Rattle.facts_kept.proofs.Beginning.{parameter_same}
use Rattle.facts_kept.proofs.Calling.{Enters, Goes, bound_goes, bound_leaves}
use Rattle.facts_kept.proofs.Fits.{all_fit}
use Rattle.facts_kept.proofs.Inverse.{IsCall, of_call}
use Rattle.facts_kept.proofs.Places.{Here, at_number, here_at}

-- ---- any value holds of all

pub any_holds : (d : Datum) → value_holds any_value d
any_holds (Plain (Single w)) = ((tt, (omega (arith, ints), omega (arith, ints))), tt)
any_holds (Plain (Double w)) = (tt, tt)
any_holds (Object c) = (tt, tt)

pub below_any : (x : Parts) → Within value_holds x any_value
below_any x d h = any_holds d

-- ---- a number that a call names

pub call_low : (p : Program) (kind : InvokeKind) (method : ℕ) (args : List ℕ) → numbers_fit (insn.Invoke kind method args) p ≡ true → method < length p.methods
unfolding numbers_fit
call_low p kind method args h = below method (length p.methods) h

receiver_same : (args : List ℕ) → receiver args ≡ receiver_register args
receiver_same [] = refl
receiver_same (r ∷ rs) = refl

module _ (p : Program) (o : Outside) (live : LiveSet) (g : IsMarked p o live) (targets : Targets) (exact : IsTargeted p o live targets) (t : table.Facts) (lives : ReachesLive p live t) where
  abbrev pub facts : Facts Parts
  facts = named_facts p t

  abbrev s : Sound p
  s = S p o live g

  module _ (k m : MethodKey) (n : ℕ) (at : name.At (values p) (named p) facts k n) (h : Here p s t k n at) where
    low : (kind : InvokeKind) (args : List ℕ) (c : IsCall p h.here.insn kind m args) → c.method < length p.methods
    low kind args c = call_low p kind c.method args (subst (λ i. numbers_fit i p ≡ true) c.is (all_fit p s t h.code.at n h.here))

    bound : (kind : InvokeKind) (args : List ℕ) (c : IsCall p h.here.insn kind m args) (f : Found) → name.IsBound kind → name.MayCall (values p) (named p) (outer_of p o) k.class at.registers args kind m f
        → Goes p s g.once targets h.code.at.class c.method kind f
    bound kind args c f b may =
        bound_goes p s g.once targets (outer_of p o) h.code.at.class c.method h.code.class at.registers args kind m f h.code.is_class (low kind args c) b c.named
        (subst (λ u. name.MayCall (values p) (named p) (outer_of p o) u at.registers args kind m f) (sym h.code.class_is) may)

    pub may_goes : (kind : InvokeKind) (args : List ℕ) (c : IsCall p h.here.insn kind m args) (f : Found) → name.MayCall (values p) (named p) (outer_of p o) k.class at.registers args kind m f
        → Goes p s g.once targets h.code.at.class c.method kind f
    may_goes call.Static args c f may = bound call.Static args c f tt may
    may_goes call.Direct args c f may = bound call.Direct args c f tt may
    may_goes call.Super args c f may = bound call.Super args c f tt may
    may_goes call.Virtual args c f (name.Virtually j x u be made under e) = object_goes p o live g t lives k m n call.Virtual args at h c (low call.Virtual args c) false refl targets exact u f made under e
    may_goes call.Interface args c f (name.ByInterface j x u be made under e) = object_goes p o live g t lives k m n call.Interface args at h c (low call.Interface args c) true refl targets exact u f made under e

    bound_out : (kind : InvokeKind) (args : List ℕ) (c : IsCall p h.here.insn kind m args) → name.IsBound kind → name.MayLeave (values p) (named p) (outer_of p o) k.class at.registers args kind m
        → found.MayLeave p targets h.code.at.class c.method kind
    bound_out kind args c b may =
        bound_leaves p s g.once targets (outer_of p o) h.code.at.class c.method h.code.class at.registers args kind m h.code.is_class (low kind args c) b c.named
        (subst (λ u. name.MayLeave (values p) (named p) (outer_of p o) u at.registers args kind m) (sym h.code.class_is) may)

    pub may_leave : (kind : InvokeKind) (args : List ℕ) (c : IsCall p h.here.insn kind m args) → name.MayLeave (values p) (named p) (outer_of p o) k.class at.registers args kind m
        → found.MayLeave p targets h.code.at.class c.method kind
    may_leave call.Static args c may = bound_out call.Static args c tt may
    may_leave call.Direct args c may = bound_out call.Direct args c tt may
    may_leave call.Super args c may = bound_out call.Super args c tt may
    may_leave call.Virtual args c (inl d) = leaves_undefined p o live g t lives k m n call.Virtual args at h c (low call.Virtual args c) false refl targets exact d
    may_leave call.Virtual args c (inr (inl i)) = leaves_interface p o live g t lives k m n call.Virtual args at h c (low call.Virtual args c) false refl targets exact i
    may_leave call.Virtual args c (inr (inr x)) = leaves_bare p o live g t lives k m n call.Virtual args at h c (low call.Virtual args c) false refl targets exact x.class x.made x.within x.bare
    may_leave call.Interface args c may = leaves_by_way p o live g t lives k m n call.Interface args at h c (low call.Interface args c) true refl targets exact refl

  -- ---- what is passed

  module _ (calls : number.Calls p targets t) (k m : MethodKey) (n : ℕ) (kind : InvokeKind) (args : List ℕ) (f : Found) (at : name.At (values p) (named p) facts k n) (e : at.form ≡ form.Invoke kind m args)
      (may : name.MayCall (values p) (named p) (outer_of p o) k.class at.registers args kind m f) where
    h : Here p s t k n at
    h = here_at p s t k n at

    c : IsCall p h.here.insn kind m args
    c = of_call p h.here.insn kind m args (h.form_is ∙ e)

    goes : Goes p s g.once targets h.code.at.class c.method kind f
    goes = may_goes k m n at h kind args c f may

    enters : is_coded p f.key ≡ true → Enters p s g.once targets h.code.at.class c.method kind f
    enters coded = goes.enters (sym goes.has_code ∙ coded)

    -- of a method without code nothing is known
    unknown : (i : ℕ) → is_coded p f.key ≡ false → facts.parameters f.key i ≡ any_value
    unknown i coded = ap (λ b. if b then parameter_by t (method_number p f.key) i else any_value) coded

    passed : (i r : ℕ) → slice_get args i ≡ Some r → (values p).below (at.registers r) (facts.parameters f.key i)
    passed i r there = by (is_coded p f.key) refl
      where
        by : (b : Bool) → is_coded p f.key ≡ b → (values p).below (at.registers r) (facts.parameters f.key i)
        by false coded = subst (λ v. (values p).below (at.registers r) v) (sym (unknown i coded)) (below_any (at.registers r))
        by true coded =
            let x = enters coded in
            subst (λ v. (values p).below (at.registers r) v) (sym (parameter_same p s t f.key x.own i coded x.is_number))
            (subst (λ z. (values p).below (z r) (parameter_at t x.own i)) h.registers_are (calls.passes h.code.at n i r c.method x.own kind args f.coded h.here c.is x.may there))

    received : (u : Text) (v : Value) → (name.IsBound kind → ⊥) → (values p).holds (at.registers (receiver_register args)) u v → (values p).holds (facts.parameters f.key 0) u v
    received u v free holds = by (is_coded p f.key) refl
      where
        unbound : (kind : InvokeKind) → (name.IsBound kind → ⊥) → found.IsBound kind → ⊥
        unbound call.Static out b = out tt
        unbound call.Direct out b = out tt
        unbound call.Super out b = out tt
        unbound call.Virtual out b = b
        unbound call.Interface out b = b

        by : (b : Bool) → is_coded p f.key ≡ b → (values p).holds (facts.parameters f.key 0) u v
        by false coded = subst (λ x. (values p).holds x u v) (sym (unknown 0 coded)) (any_holds (datum_of (named p) u v))
        by true coded =
            let x = enters coded in
            subst (λ z. (values p).holds z u v) (sym (parameter_same p s t f.key x.own 0 coded x.is_number))
            (calls.receives h.code.at n c.method x.own kind args f.coded h.here c.is (unbound kind free) x.may (datum_of (named p) u v)
            (subst (λ r. value_holds (value_at h.here.registers r) (datum_of (named p) u v)) (sym (receiver_same args))
            (subst (λ z. (values p).holds (z (receiver_register args)) u v) (sym h.registers_are) holds)))

    entered : f.coded ≡ true → name.IsEntered (values p) facts f.key
    entered coded =
        let x = goes.enters coded in
        ap is_some (at_number p s t f.key x.own 0 x.is_number)
        ∙ mapped_some values_of (registers_at t x.own 0)
        ∙ calls.enters h.code.at n c.method x.own kind args h.here c.is (subst (λ b. found.MayCall p targets h.code.at.class c.method kind x.own b) coded x.may)

  pub calls_named : number.Calls p targets t → name.Calls (values p) (named p) (outer_of p o) facts
  calls_named calls = record {
    passes = λ k m n i r kind args f at e may there first. passed calls k m n kind args f at e may i r there;
    receives = λ k m n kind args f u v at e free holds full finds may. received calls k m n kind args f at e may u v free holds;
    enters = λ k m n kind args f at e may coded. entered calls k m n kind args f at e may coded;
  }
