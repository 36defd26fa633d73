-- Facts that say nothing are closed where all is live, and so are the marks by which all is.
use Rattle.std.proofs.Common.{◌≡◌, ℕ, zero, suc, ◌+◌, ◌-◌, ◌<◌, Bool, true, false, List, [], ◌∷◌, length, Option, Some, None, inl, inr, refl, sym, ap, ◌∙◌, subst, arith}
use Rattle.std.specs.Prelude.{is_some, slice_get, slice_index_or, cond, Contains, position, option_and_then}
use Rattle.std.proofs.lemmas.Option.{get_or_from_slice_get}
use Rattle.lemmas.proofs.Bools.{and_right, clash}
use Rattle.lemmas.proofs.Lists.{got_short}
use Rattle.lemmas.proofs.Options.{none_some, some_same}
use Rattle.insn_set.specs.declared.ops.Slot.{Slot}
use Rattle.insn_set.specs.declared.ops.InvokeKind.{InvokeKind}
use Rattle.insn_set.specs.declared.form.Insn.TheVariants as insn
use Rattle.insn_set.specs.Widths.{is_wide_slot}
use Rattle.insn_set.specs.Flow.{goes_on}
use Rattle.program_model.specs.OperandRules.{has_room, registers_fit}
use Rattle.program_model.specs.ProgramRules.{is_well_formed}
use Rattle.program_model.specs.Lookups.{method_at}
use Rattle.program_model.specs.MemberRules.{is_static}
use Rattle.program_model.specs.declared.body.Body.{Body}
use Rattle.program_model.specs.declared.program.Class.{Class}
use Rattle.program_model.specs.declared.program.Method.{Method}
use Rattle.program_model.specs.declared.program.MethodAt.{MethodAt}
use Rattle.program_model.specs.declared.program.Program.{Program}
use Rattle.program_model.specs.declared.pass.Outside.{Outside}
use Rattle.class_defs.specs.Starts.{is_initialiser, runs, running, initialiser_of, initialiser_place}
use Rattle.flow_cfg.specs.Walks.{thrown_to}
use Rattle.domains.specs.Values.{Parts, any_value}
use Rattle.dom_frame.specs.Registers.{Registers, value_at, put_sized}
use Rattle.dom_frame.specs.Steps.{receiver}
use Rattle.facts.specs.declared.facts.Facts.{Facts}
use Rattle.call_graph.specs.declared.facts.Fact.TheVariants as fact
use Rattle.call_graph.specs.declared.live_set.LiveSet.{LiveSet}
use Rattle.call_graph.specs.Closed.{IsClosedSet}
use Rattle.call_graph.specs.Facts.{Fits}
use Rattle.call_targets.specs.declared.table.Targets.{Targets}
use Rattle.call_targets.specs.Targeted as target
use Rattle.call_targets.specs.Targeted.{IsTargeted, IsCoded, IsLink, is_on}
use Rattle.closed_facts.specs.Tables.{IsBelow, Arrives, At, IsEntered, IsOpen, registers_at, parameter_at, result_at, field_at}
use Rattle.closed_facts.specs.Found.{MayCall, Bound, Linked}
use Rattle.closed_facts.specs.Edges.{edges}
use Rattle.closed_facts.specs.Entries.{Starts, BeginsAt}
use Rattle.closed_facts.specs.Fields.{HoldsFields}
use Rattle.closed_facts.specs.Flows.{Results, Flows}
use Rattle.closed_facts.specs.Calls.{Calls}
use Rattle.closed_facts.specs.Closed.{ReachesLive, AreClosed}
use Rattle.vague_facts.specs.Vague.{anything, IsVague, IsWhole}
use Rattle.vague_facts.proofs.Registers.{Short, below_any, short_anything, below_anything, any_there, sized_short}
use Rattle.vague_facts.proofs.Bodies.{InsnRules, BodyRules, rules_at}
use Rattle.vague_facts.proofs.Going.{thrown_low, edge_good}

-- ---- marks

-- marks by which all is live are closed, with the tables of others that are
pub whole_closed : (p : Program) (o : Outside) (some all : LiveSet) → IsClosedSet p o some → IsWhole all → IsClosedSet p o all
whole_closed p o some all c w = record {
  tables = c.tables;
  are = c.are;
  begins = λ x h. w x;
  entails = λ x y l e. w y;
  answers = λ number kind class q y a b d e f g h i. w y;
  finds = λ number kind class q at y a b d e f g h i j. w y;
  goes = λ x y l e. w y;
  called = λ old number kind class q y a b d e f g h i. w y;
}

-- a number of a table is marked where it is marked or past the table
on_table : (marks : List Bool) (n : ℕ) → n < length marks → slice_index_or marks n true ≡ true → is_on marks n ≡ true
on_table [] n lt e = absurd (omega (arith, lt))
on_table (m ∷ ms) zero lt e = e
on_table (m ∷ ms) (suc n) lt e = on_table ms n (omega (arith, lt)) e

some_body : (o : Option Body) → is_some o ≡ true → (b : Body) × (o ≡ Some b)
some_body None e = clash false e refl
some_body (Some b) e = (b, refl)

-- ---- the initialiser of a class has code

ran : (ms : List Method) (o : Option ℕ) (i : ℕ) → running ms o ≡ Some i → runs (slice_get ms i) ≡ true
ran ms None i e = none_some i e
ran ms (Some j) i e = by (runs (slice_get ms j)) refl e
  where
    by : (b : Bool) → runs (slice_get ms j) ≡ b → cond b (Some j) None ≡ Some i → runs (slice_get ms i) ≡ true
    by true r k = subst (λ n. runs (slice_get ms n) ≡ true) (some_same j i k) r
    by false r k = none_some i k

runs_code : (m : Method) → runs (Some m) ≡ true → is_some m.body ≡ true
runs_code m e = and_right (is_static m.flags) (is_some m.body) e

initialiser_coded : (p : Program) (c i : ℕ) (m : Method) → initialiser_place p c ≡ Some i → method_at p (record { class = c; place = i }) ≡ Some m → is_some m.body ≡ true
initialiser_coded p c i m e f = by (slice_get p.classes c) e f
  where
    by : (o : Option Class) → initialiser_of p o ≡ Some i → option_and_then (λ c. slice_get c.methods i) o ≡ Some m → is_some m.body ≡ true
    by None e f = none_some i e
    by (Some k) e f = runs_code m (subst (λ o. runs o ≡ true) f (ran k.methods (position (is_initialiser p) k.methods) i e))

-- ---- facts

module _ (p : Program) (o : Outside) (live : LiveSet) (targets : Targets) (t : Facts) (formed : is_well_formed p ≡ true) (fits : Fits p live) (whole : IsWhole live) (exact : IsTargeted p o live targets) (vague : IsVague p t) where
  abbrev all : Registers
  all = anything vague.size

  parameter_any : (m i : ℕ) → parameter_at t m i ≡ any_value
  parameter_any m i = ap (λ ps. slice_index_or (slice_index_or ps m []) i t.any) vague.parameters ∙ vague.any

  result_any : (m : ℕ) → result_at t m ≡ any_value
  result_any m = ap (λ rs. slice_index_or rs m t.any) vague.results ∙ vague.any

  field_any : (f : ℕ) → field_at t f ≡ any_value
  field_any f = ap (λ fs. slice_index_or fs f t.any) vague.fields ∙ vague.any

  to_parameter : (v : Parts) (m i : ℕ) → IsBelow v (parameter_at t m i)
  to_parameter v m i = subst (IsBelow v) (sym (parameter_any m i)) (below_any v)

  to_result : (v : Parts) (m : ℕ) → IsBelow v (result_at t m)
  to_result v m = subst (IsBelow v) (sym (result_any m)) (below_any v)

  to_field : (v : Parts) (f : ℕ) → IsBelow v (field_at t f)
  to_field v f = subst (IsBelow v) (sym (field_any f)) (below_any v)

  -- ---- positions

  come : (at : MethodAt) (m : Method) (b : Body) (n : ℕ) (x : Registers) → method_at p at ≡ Some m → m.body ≡ Some b → n < length b.insns → Short vague.size x → Arrives x (registers_at t m.name n)
  come at m b n x e f lt h = subst (Arrives x) (sym (vague.comes at m b n e f lt)) (below_anything vague.size x h)

  enter : (at : MethodAt) (m : Method) → method_at p at ≡ Some m → is_some m.body ≡ true → IsEntered t m.name
  enter at m e c =
      let b = some_body m.body c in
      let rules = (rules_at p formed at m e).code b.0 b.1 in
      ap is_some (vague.comes at m b.0 0 e b.1 rules.begins)

  -- a position that is reached, with the rules of its body
  module _ (at : MethodAt) (n : ℕ) (here : At p t at n) where
    rules : BodyRules p here.body
    rules = (rules_at p formed at here.method here.has_method).code here.body here.has_body

    one : InsnRules here.body n here.insn
    one = rules.insns n here.insn here.has_insn

    holds_any : here.registers ≡ all
    holds_any = some_same here.registers all (sym here.reached ∙ vague.comes at here.method here.body n here.has_method here.has_body (got_short here.body.insns n here.insn here.has_insn))

    short : Short vague.size here.registers
    short = subst (Short vague.size) (sym holds_any) (short_anything vague.size)

    onward : (q : ℕ × Registers) → Contains (edges p t n here.insn here.registers) q → Arrives q.1 (registers_at t here.method.name q.0)
    onward q c =
        let good = edge_good p t vague.size here.body.registers vague.some (vague.room at here.method here.body here.has_method here.has_body) here.body.insns n here.registers here.insn q short one.registers one.targets one.next c in
        come at here.method here.body q.0 q.1 here.has_method here.has_body good.0 good.1

    thrown : (q : ℕ) → Contains (thrown_to here.body.regions n here.insn) q → Arrives here.registers (registers_at t here.method.name q)
    thrown q c = come at here.method here.body q here.registers here.has_method here.has_body (thrown_low p here.body.insns here.body.regions n here.insn q rules.regions c) short

  takes_room : (s : Slot) (to count : ℕ) → registers_fit (insn.MoveResult s to) count ≡ true → has_room (is_wide_slot s) to count ≡ true
  unfolding registers_fit
  takes_room s to count e = e

  same_method : (at : MethodAt) (m n : ℕ) (one : At p t at m) (two : At p t at n) → one.method ≡ two.method
  same_method at m n one two = some_same one.method two.method (sym one.has_method ∙ two.has_method)

  taken : (at : MethodAt) (n to : ℕ) (s : Slot) (v : Parts) (here : At p t at n) (taker : At p t at (n + 1)) → taker.insn ≡ insn.MoveResult s to → Results p targets t at.class here.insn v
      → Arrives (put_sized (is_wide_slot s) to v taker.registers) (registers_at t here.method.name (n + 2))
  taken at n to s v here taker e r =
      let own = one at (n + 1) taker in
      let next : n + 1 + 1 < length taker.body.insns = own.next (subst (λ i. goes_on i ≡ true) (sym e) refl) in
      let two : n + 2 < length taker.body.insns = omega (arith, next) in
      let room = takes_room s to taker.body.registers (subst (λ i. registers_fit i taker.body.registers ≡ true) e own.registers) in
      let names : taker.method.name ≡ here.method.name = ap (λ (m : Method). m.name) (same_method at (n + 1) n taker here) in
      subst (λ m. Arrives (put_sized (is_wide_slot s) to v taker.registers) (registers_at t m (n + 2))) names
      (come at taker.method taker.body (n + 2) (put_sized (is_wide_slot s) to v taker.registers) taker.has_method taker.has_body two
      (sized_short vague.size taker.body.registers (vague.room at taker.method taker.body taker.has_method taker.has_body) (is_wide_slot s) to v taker.registers room (short at (n + 1) taker)))

  flows : Flows p targets t
  flows = record { onward = λ at n q here c. onward at n here q c; taken = taken; thrown = λ at n q here c. thrown at n here q c }

  -- ---- calls

  called : (class method m : ℕ) (kind : InvokeKind) (coded : Bool) → MayCall p targets class method kind m coded → coded ≡ true → IsEntered t m
  called class method _ _ _ (Bound kind at m e f) c = enter at m f c
  called class method _ _ _ (Linked kind link e l) c =
      let h : IsLink p live link = exact.only_links link l in
      subst (IsEntered t) (sym h.is_method) (enter h.at h.found h.is_found h.coded)

  calls : Calls p targets t
  calls = record {
    passes = λ at n i r method m kind args coded here e c s. to_parameter (value_at here.registers r) m i;
    receives = λ at n method m kind args coded here e b c. to_parameter (value_at here.registers (receiver args)) m 0;
    enters = λ at n method m kind args here e c. called at.class method m kind true c refl;
  }

  fields : HoldsFields p o t
  fields = record {
    firsts = λ at f e. to_field _ f.name;
    opened = λ at f e c. to_field any_value f.name;
    puts = λ at n from field own item here q e. to_field _ own;
  }

  -- ---- entries

  coded_enters : (at : MethodAt) (m : Method) (q : _) (number : ℕ) → IsCoded p at m q number → IsEntered t number
  coded_enters at m q number h = subst (IsEntered t) (sym h.is_number) (enter at m h.is_method h.coded)

  framework_enters : (m : ℕ) → target.IsEntered p o live m → IsEntered t m
  framework_enters m (inl (at, h)) = coded_enters at h.method h.name m h.is
  framework_enters m (inr (inl h)) = coded_enters h.at h.method h.name m h.is
  framework_enters m (inr (inr (inl h))) = coded_enters h.at h.method h.name m h.is
  framework_enters m (inr (inr (inr h))) = coded_enters h.at h.method h.name m h.is

  opens : (m : ℕ) → slice_get targets.entered.items m ≡ Some true → IsOpen t m
  opens m e = record {
    entered = framework_enters m (exact.entered.only m (get_or_from_slice_get targets.entered.items m true false e));
    parameters = λ i. to_parameter any_value m i;
  }

  starts : Starts p targets t
  starts = record {
    marked = λ c. true;
    listed = λ c. true;
    by_framework = λ c e. refl;
    by_code = λ at n c here h. refl;
    above = λ c u m i e. refl;
    lists = λ c u v m i e. refl;
    lists_above = λ c u m i e. refl;
    defaults = λ c m i e. refl;
    initialisers = λ c i m h e f. enter (record { class = c; place = i }) m f (initialiser_coded p c i m e f);
  }

  begins : (at : MethodAt) (m : Method) (b : Body) (x : Registers) → method_at p at ≡ Some m → m.body ≡ Some b → registers_at t m.name 0 ≡ Some x → BeginsAt t m.name b x
  begins at m b x e f g =
      let rules = (rules_at p formed at m e).code b f in
      let is : x ≡ all = some_same x all (sym g ∙ vague.comes at m b 0 e f rules.begins) in
      let ins = rules.ins in
      let room = vague.room at m b e f in
      let there = λ (r : ℕ) (lt : r < vague.size). subst (λ y. IsBelow any_value (value_at y r)) (sym is) (any_there vague.size r lt) in
      record {
        arguments = λ i lt. subst (λ v. IsBelow v (value_at x (b.registers - b.ins + i))) (sym (parameter_any m.name i)) (there (b.registers - b.ins + i) (omega (arith, lt, ins, room)));
        others = λ r lt. there r (omega (arith, lt, room));
      }

  all_live : ReachesLive p live t
  all_live at n here =
      let named = (rules_at p formed at here.method here.has_method).named in
      let long = fits.methods in
      on_table live.methods.items here.method.name (omega (arith, named, long)) (whole (fact.Method here.method.name))

  pub vague_closed : AreClosed p o live targets t
  vague_closed = record {
    any = vague.any;
    reached_live = all_live;
    entries = record { opens = opens; starts = starts };
    begins = begins;
    fields = fields;
    flows = flows;
    calls = calls;
    returns = λ at n from s here e. to_result (value_at here.registers from) here.method.name;
    bare = λ at m i e f. to_parameter any_value m.name i;
  }
