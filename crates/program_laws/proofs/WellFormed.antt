-- In a well-formed program results are taken where they are given.
use Rattle.std.proofs.Common.{◌≡◌, ℕ, zero, suc, ◌+◌, ◌-◌, ◌<◌, Bool, true, false, true≢false, List, [], ◌∷◌, length, refl, sym, ap, ◌∙◌, subst, arith}
use Rattle.std.specs.Prelude.{◌&&◌, not, cond, nat_le, nat_lt, Option, Some, None, map, find, Contains, slice_get, slice_index_or}
use Rattle.std.specs.List.{list_all, enumerate_from}
use Rattle.std.specs.Option.{option_map}
use Rattle.lemmas.proofs.Bools.{and_right, clash}
use Rattle.lemmas.proofs.Lists.{all_append, get_map}
use Rattle.lemmas.proofs.Options.{before_map, none_some, some_same}
use Rattle.insn_set.specs.Spelling.{is_encodable}
use Rattle.insn_set.specs.Flow.{targets_of}
use Rattle.insn_set.specs.declared.form.Insn.{Insn}
use Rattle.insn_set.specs.declared.form.Insn.TheVariants as insn
use Rattle.program_model.specs.Neighbours.{neighbours}
use Rattle.program_model.specs.Texts.{has_type}
use Rattle.program_model.specs.OperandRules.{registers_fit, numbers_fit}
use Rattle.program_model.specs.RegionRules.{may_begin, handler_fits, rest_fits, catches, region_fits, are_apart, regions_fit}
use Rattle.program_model.specs.BodyRules.{ends, has_result, may_follow, follows, may_enter, targets_fit, leaves, is_caught, insn_fits, body_fits}
use Rattle.program_model.specs.LineRules.{lines_fit}
use Rattle.program_model.specs.ValueRules.{marks_fit}
use Rattle.program_model.specs.Distinct.{own_method_key, all_differ}
use Rattle.program_model.specs.MemberRules.{fields_fit, class_of_method, is_class_number, lacks_code, frame_fits, code_fits, method_fits, methods_in_order, methods_fit, types_of_class_fit, source_fits, class_fits}
use Rattle.program_model.specs.ProgramRules.{is_well_formed}
use Rattle.program_model.proofs.Formed.{formed}
use Rattle.program_model.specs.declared.body.Handler.{Handler}
use Rattle.program_model.specs.declared.body.Region.{Region}
use Rattle.program_model.specs.declared.body.Body.{Body}
use Rattle.program_model.specs.declared.program.Method.{Method}
use Rattle.program_model.specs.declared.program.Class.{Class}
use Rattle.program_model.specs.declared.program.Program.{Program}
use Rattle.dalvik_defs.specs.Naming.{form_of, handler_of, region_of, body_of, named_method, named_class, named}
use Rattle.dalvik_defs.specs.declared.forms.Form.{Form}
use Rattle.dalvik_defs.specs.declared.program.NamedHandler.{NamedHandler}
use Rattle.dalvik_defs.specs.declared.program.NamedRegion.{NamedRegion}
use Rattle.dalvik_defs.specs.declared.program.NamedBody.{NamedBody}
use Rattle.dalvik_defs.specs.declared.program.NamedMethod.{NamedMethod}
use Rattle.pass_defs.specs.Bare.{may_throw, continues, targets}
use Rattle.pass_defs.specs.Quiet.{takes_result}
use Rattle.pass_defs.specs.Walks.{is_covered, form_at, next_position, onward, caught, listed, handlers_of, handlers_at}
use Rattle.program_laws.specs.Results.{gives_result, takes_none, TakesInPlace, AllTakeInPlace}
use Rattle.program_laws.proofs.ChangedLists.{and_left, and_both, all_map, all_from}
use Rattle.program_laws.proofs.Moved.{image}

-- ---- lists

-- what is changed to something is something
all_at : {A : Type 0} (f : A → Bool) (xs : List A) (x : A) (k : ℕ) → k < length xs → slice_index_or xs k x ≡ x → list_all f xs ≡ true → f x ≡ true
all_at f [] x k lt e h = absurd (omega (arith, lt))
all_at f (y ∷ ys) x zero lt e h = ap f (sym e) ∙ and_left (f y) (list_all f ys) h
all_at f (y ∷ ys) x (suc k) lt e h = all_at f ys x k (omega (arith, lt)) e (and_right (f y) (list_all f ys) h)

-- ---- one instruction behind another

abbrev Follow : Option Insn → Option Insn → Type 0
Follow None o = Unit {0}
Follow (Some i) None = Unit {0}
Follow (Some i) (Some j) = may_follow i j ≡ true

follow : (is : List Insn) (n : ℕ) → list_all follows (neighbours is) ≡ true → Follow (slice_get is n) (slice_get is (suc n))
follow [] n h = tt
follow (i ∷ []) zero h = tt
follow (i ∷ []) (suc n) h = tt
follow (i ∷ (j ∷ is)) zero h = and_left (may_follow i j) (list_all follows (neighbours (j ∷ is))) h
follow (i ∷ (j ∷ is)) (suc n) h = follow (j ∷ is) n (and_right (may_follow i j) (list_all follows (neighbours (j ∷ is))) h)

module _ (p : Program) where
  abbrev is_no_taking : Option Insn → Bool
  is_no_taking o = not (takes_result (option_map (form_of p) o))

  none_begins : (o : Option Insn) → may_begin o ≡ true → is_no_taking o ≡ true
  none_begins None e = refl
  none_begins (Some (insn.MoveResult slot to)) e = clash false e refl
  none_begins (Some i) e = refl

  none_enters : (o : Option Insn) → may_enter o ≡ true → is_no_taking o ≡ true
  none_enters None e = refl
  none_enters (Some (insn.MoveResult slot to)) e = clash false e refl
  none_enters (Some i) e = refl

  none_behind : (i : Insn) (o : Option Insn) → Follow (Some i) o → has_result i ≡ false → is_no_taking o ≡ true
  none_behind i None h e = refl
  none_behind i (Some (insn.MoveResult slot to)) h e = clash (has_result i) h e
  none_behind i (Some j) h e = refl

  gives_same : (i : Insn) → gives_result (form_of p i) ≡ has_result i
  gives_same (insn.FilledNewArray kind args) = refl
  gives_same (insn.Invoke kind method args) = refl
  gives_same i = refl

  targets_same : (i : Insn) → targets (form_of p i) ≡ targets_of i
  targets_same (insn.Goto target) = refl
  targets_same i = refl

  -- ---- a body

  module _ (b : Body) (fits : body_fits p b ≡ true) where
    abbrev code : NamedBody
    code = body_of p b

    at_place : (k : ℕ) → is_no_taking (slice_get b.insns k) ≡ true → takes_none code k ≡ true
    at_place k e = ap (λ o. not (takes_result o)) (get_map (form_of p) b.insns k) ∙ e

    rules : (list_all follows (neighbours b.insns) && (list_all (insn_fits p b) (enumerate_from 0 b.insns) && regions_fit p b.insns b.regions)) ≡ true
    unfolding body_fits
    rules = and_right (may_begin (slice_get b.insns 0) && ends (slice_get b.insns (length b.insns - 1))) (list_all follows (neighbours b.insns) && (list_all (insn_fits p b) (enumerate_from 0 b.insns) && regions_fit p b.insns b.regions)) fits

    neighbours_fit : list_all follows (neighbours b.insns) ≡ true
    neighbours_fit = and_left (list_all follows (neighbours b.insns)) (list_all (insn_fits p b) (enumerate_from 0 b.insns) && regions_fit p b.insns b.regions) rules

    insns_fit : list_all (insn_fits p b) (enumerate_from 0 b.insns) ≡ true
    insns_fit = and_left (list_all (insn_fits p b) (enumerate_from 0 b.insns)) (regions_fit p b.insns b.regions) (and_right (list_all follows (neighbours b.insns)) (list_all (insn_fits p b) (enumerate_from 0 b.insns) && regions_fit p b.insns b.regions) rules)

    each_region : list_all (region_fits p b.insns) b.regions ≡ true
    unfolding regions_fit
    each_region = and_left (list_all (region_fits p b.insns) b.regions) (list_all are_apart (neighbours b.regions))
        (and_right (list_all (insn_fits p b) (enumerate_from 0 b.insns)) (regions_fit p b.insns b.regions) (and_right (list_all follows (neighbours b.insns)) (list_all (insn_fits p b) (enumerate_from 0 b.insns) && regions_fit p b.insns b.regions) rules))

    -- ---- onward

    insn_targets : (k : ℕ) (i : Insn) → insn_fits p b (k, i) ≡ true → targets_fit b.insns i ≡ true
    unfolding insn_fits
    insn_targets k i h = and_left (targets_fit b.insns i) (leaves k i && is_caught b.regions k i)
        (and_right (is_encodable i && (registers_fit i b.registers && numbers_fit i p)) (targets_fit b.insns i && (leaves k i && is_caught b.regions k i)) h)

    targets_at : (is : List Insn) (k n : ℕ) (i : Insn) → list_all (insn_fits p b) (enumerate_from k is) ≡ true → slice_get is n ≡ Some i → targets_fit b.insns i ≡ true
    targets_at [] k n i h e = none_some i e
    targets_at (j ∷ is) k zero i h e = ap (targets_fit b.insns) (sym (some_same j i e)) ∙ insn_targets k j (and_left (insn_fits p b (k, j)) (list_all (insn_fits p b) (enumerate_from (k + 1) is)) h)
    targets_at (j ∷ is) k (suc n) i h e = targets_at is (k + 1) n i (and_right (insn_fits p b (k, j)) (list_all (insn_fits p b) (enumerate_from (k + 1) is)) h) e

    one_more : (n : ℕ) → n + 1 ≡ suc n
    one_more n = omega arith

    next_none : (n : ℕ) (i : Insn) → slice_get b.insns n ≡ Some i → has_result i ≡ false → takes_none code (n + 1) ≡ true
    next_none n i e h = ap (λ k. takes_none code k) (one_more n)
        ∙ at_place (suc n) (none_behind i (slice_get b.insns (suc n)) (subst (λ o. Follow o (slice_get b.insns (suc n))) e (follow b.insns n neighbours_fit)) h)

    insn_onward : (n : ℕ) (i : Insn) → slice_get b.insns n ≡ Some i → has_result i ≡ false → list_all (takes_none code) (onward (form_of p i) n) ≡ true
    insn_onward n i e h = all_append (takes_none code) (next_position (continues (form_of p i)) n) (targets (form_of p i)) (next (continues (form_of p i)))
        (ap (list_all (takes_none code)) (targets_same i)
        ∙ all_from (λ t. may_enter (slice_get b.insns t)) (λ t. may_enter (slice_get b.insns t)) (takes_none code) (λ t d x. at_place t (none_enters (slice_get b.insns t) d)) (targets_of i) (targets_at b.insns 0 n i insns_fit e) (targets_at b.insns 0 n i insns_fit e))
      where
        next : (g : Bool) → list_all (takes_none code) (next_position g n) ≡ true
        next true = and_both (takes_none code (n + 1)) true (next_none n i e h) refl
        next false = refl

    onward_none : (n : ℕ) (f : Form) → form_at code n ≡ Some f → gives_result f ≡ false → list_all (takes_none code) (onward f n) ≡ true
    onward_none n f e h =
        let r = before_map (form_of p) (slice_get b.insns n) f (sym (get_map (form_of p) b.insns n) ∙ e) in
        subst (λ f. list_all (takes_none code) (onward f n) ≡ true) r.1.1 (insn_onward n r.0 r.1.0 (sym (gives_same r.0) ∙ ap gives_result r.1.1 ∙ h))

    -- ---- handlers

    handler_none : (h : Handler) → handler_fits p b.insns h ≡ true → takes_none code h.position ≡ true
    handler_none h e = at_place h.position (none_begins (slice_get b.insns h.position) (and_right (has_type p h.kind) (may_begin (slice_get b.insns h.position)) e))

    rest_none : (o : Option ℕ) → rest_fits b.insns o ≡ true → list_all (takes_none code) (listed o) ≡ true
    rest_none None e = refl
    rest_none (Some k) e = and_both (takes_none code k) true (at_place k (none_begins (slice_get b.insns k) e)) refl

    region_none : (r : Region) → region_fits p b.insns r ≡ true → list_all (takes_none code) (handlers_of (Some (region_of p r))) ≡ true
    region_none r e =
        let inner = and_right (catches r) (list_all (handler_fits p b.insns) r.handlers && rest_fits b.insns r.rest) (and_right (nat_lt r.first r.end && nat_le r.end (length b.insns)) (catches r && (list_all (handler_fits p b.insns) r.handlers && rest_fits b.insns r.rest)) e) in
        let hs = and_left (list_all (handler_fits p b.insns) r.handlers) (rest_fits b.insns r.rest) inner in
        all_append (takes_none code) (map (λ h. h.position) (map (handler_of p) r.handlers)) (listed r.rest)
        (all_map (takes_none code) (λ (h : NamedHandler). h.position) (map (handler_of p) r.handlers)
        ∙ all_map (λ (h : NamedHandler). takes_none code h.position) (handler_of p) r.handlers
        ∙ all_from (handler_fits p b.insns) (handler_fits p b.insns) (λ (h : Handler). takes_none code h.position) (λ h d x. handler_none h d) r.handlers hs hs)
        (rest_none r.rest (and_right (list_all (handler_fits p b.insns) r.handlers) (rest_fits b.insns r.rest) inner))

    found_none : (test : NamedRegion → Bool) (rs : List Region) → list_all (region_fits p b.insns) rs ≡ true → list_all (takes_none code) (handlers_of (find test (map (region_of p) rs))) ≡ true
    found_none test [] e = refl
    found_none test (r ∷ rs) e = by (test (region_of p r)) (region_none r (and_left (region_fits p b.insns r) (list_all (region_fits p b.insns) rs) e)) (found_none test rs (and_right (region_fits p b.insns r) (list_all (region_fits p b.insns) rs) e))
      where
        by : (x : Bool) → list_all (takes_none code) (handlers_of (Some (region_of p r))) ≡ true → list_all (takes_none code) (handlers_of (find test (map (region_of p) rs))) ≡ true
            → list_all (takes_none code) (handlers_of (cond x (Some (region_of p r)) (find test (map (region_of p) rs)))) ≡ true
        by true h k = h
        by false h k = k

    caught_none : (n : ℕ) (f : Form) → form_at code n ≡ Some f → list_all (takes_none code) (caught code f n) ≡ true
    caught_none n f e = by (may_throw f)
      where
        by : (x : Bool) → list_all (takes_none code) (elim x as (λ x. List ℕ) [ true ↦ handlers_at code n | false ↦ [] ]) ≡ true
        by true = found_none (is_covered n) b.regions each_region
        by false = refl

    body_places : TakesInPlace code
    body_places = record { onward = onward_none; caught = caught_none }

  -- ---- a program

  program_classes : is_well_formed p ≡ true → list_all (class_fits p) p.classes ≡ true
  program_classes h = (formed p h).classes

  class_methods : (c : Class) → class_fits p c ≡ true → list_all (method_fits p c.name) c.methods ≡ true
  unfolding class_fits methods_fit
  class_methods c h =
      let members = and_right (types_of_class_fit p c && (source_fits p c.source && marks_fit p c.marks)) (fields_fit p c.name c.fields && methods_fit p c.name c.methods) h in
      and_left (list_all (method_fits p c.name) c.methods) (list_all (methods_in_order p) (neighbours c.methods) && all_differ own_method_key c.methods) (and_right (fields_fit p c.name c.fields) (methods_fit p c.name c.methods) members)

  method_code : (k : ℕ) (m : Method) → method_fits p k m ≡ true → code_fits p m m.body ≡ true
  unfolding method_fits
  method_code k m h = and_right (is_class_number (class_of_method (slice_get p.methods m.name)) k) (code_fits p m m.body)
      (and_left (is_class_number (class_of_method (slice_get p.methods m.name)) k && code_fits p m m.body) (marks_fit p m.marks && list_all (marks_fit p) m.parameter_marks) h)

  code_body : (m : Method) (b : Body) → code_fits p m (Some b) ≡ true → body_fits p b ≡ true
  code_body m b h =
      let rest = and_right (not (lacks_code m.flags)) (frame_fits p m b && (body_fits p b && lines_fit (length b.insns) m.lines)) h in
      and_left (body_fits p b) (lines_fit (length b.insns) m.lines) (and_right (frame_fits p m b) (body_fits p b && lines_fit (length b.insns) m.lines) rest)

  in_method : (m : Method) (b : NamedBody) → code_fits p m m.body ≡ true → option_map (body_of p) m.body ≡ Some b → TakesInPlace b
  in_method m b h e =
      let r = before_map (body_of p) m.body b e in
      subst TakesInPlace r.1.1 (body_places r.0 (code_body m r.0 (subst (λ o. code_fits p m o ≡ true) r.1.0 h)))

  in_class : (c : Class) (m : NamedMethod) (b : NamedBody) → class_fits p c ≡ true → Contains (map (named_method p) c.methods) m → m.body ≡ Some b → TakesInPlace b
  in_class c m b h i e =
      let r = image (named_method p) c.methods m i.0 i.1 i.2 in
      in_method r.0 b (method_code c.name r.0 (all_at (method_fits p c.name) c.methods r.0 r.1.0.0 r.1.0.1 r.1.0.2 (class_methods c h))) (ap (λ x. x.body) r.1.1 ∙ e)

  pub well_placed : is_well_formed p ≡ true → AllTakeInPlace (named p)
  well_placed h c m b i j e =
      let r = image (named_class p) p.classes c i.0 i.1 i.2 in
      in_class r.0 m b (all_at (class_fits p) p.classes r.0 r.1.0.0 r.1.0.1 r.1.0.2 (program_classes h)) (subst (λ x. Contains x.methods m) (sym r.1.1) j) e
