-- What is checked makes a table of facts closed.
use Rattle.std.proofs.Common.{◌≡◌, ℕ, zero, suc, ◌+◌, ◌*◌, ◌<◌, Bool, true, false, true≢false, List, [], ◌∷◌, Option, Some, None, inl, inr, refl, sym, ap, ◌∙◌, subst, arith, add-one, Vec, Global}
use Rattle.std.specs.Prelude.{slice_get, slice_index_or, Contains, is_some, option_and_then, ◌&&◌}
use Rattle.std.specs.List.{list_all}
use Rattle.std.proofs.lemmas.Option.{slice_get_within, get_or_from_slice_get}
use Rattle.insn_set.specs.declared.ops.Slot.{Slot}
use Rattle.insn_set.specs.declared.ops.Item.{Item}
use Rattle.insn_set.specs.declared.ops.InvokeKind.{InvokeKind}
use Rattle.insn_set.specs.declared.ops.InvokeKind.TheVariants as call
use Rattle.insn_set.specs.declared.form.Insn.{Insn}
use Rattle.insn_set.specs.declared.form.Insn.TheVariants as insn
use Rattle.insn_set.specs.Widths.{is_wide_slot}
use Rattle.program_model.specs.declared.body.Body.{Body}
use Rattle.program_model.specs.declared.program.Field.{Field}
use Rattle.program_model.specs.declared.program.Method.{Method}
use Rattle.program_model.specs.declared.program.MethodAt.{MethodAt}
use Rattle.program_model.specs.declared.program.Class.{Class}
use Rattle.program_model.specs.declared.program.Program.{Program}
use Rattle.program_model.specs.Lookups.{class_place, method_at}
use Rattle.class_defs.specs.Finding.{Finds, is_037}
use Rattle.class_defs.specs.Members.{is_interface}
use Rattle.class_defs.specs.Places.{super_place, interface_places, listed}
use Rattle.class_defs.specs.Starts.{initialiser_place}
use Rattle.flow_cfg.specs.Walks.{thrown_to}
use Rattle.domains.specs.Values.{Parts, any_value}
use Rattle.dom_frame.specs.declared.frames.Frame.{Frame}
use Rattle.dom_frame.specs.Registers.{Registers, value_at, put_sized}
use Rattle.dom_frame.specs.Steps.{receiver}
use Rattle.facts.specs.declared.facts.Facts.{Facts}
use Rattle.call_targets.specs.declared.table.Link.{Link}
use Rattle.closed_facts.specs.Tables.{IsBelow, AreBelow, Arrives, At, IsEntered, registers_at, parameter_at, result_at, field_at}
use Rattle.closed_facts.specs.Found.{MayCall, Bound, Linked, MayLeave, Unfound, Bare, ByInterface, Marked, IsBound, finds_bound, own_number, needs}
use Rattle.closed_facts.specs.Edges.{edges}
use Rattle.closed_facts.specs.Entries.{Starts, has_default}
use Rattle.value_ops.specs.Numbers.{stored_value}
use Rattle.closed_facts.specs.Fields.{begun_parts, HoldsFields, Puts, Instance, Static}
use Rattle.closed_facts.specs.Flows.{Results, Given, Left, Filled, Flows}
use Rattle.closed_facts.specs.Calls.{Calls}
use Rattle.closed_facts.specs.Closed.{Returns, LeavesOpen, AreClosed}
use Rattle.facts_check.specs.declared.known.Known.{Known}
use Rattle.facts_check.specs.Known.{AreKnown, is_marked, is_made, pool_at, answer_at}
use Rattle.facts_check.specs.Landing.{Lands, Goes}
use Rattle.facts_check.specs.Placed.{IsBoundCall, IsPooled, HoldsCall, HoldsCalls, HoldsPut, HoldsPuts, HoldsReturn, HoldsResult, HoldsResults, HoldsBehind, HoldsTaken, IsPlaced}
use Rattle.facts_check.specs.Bodies.{insn_before, IsLinked, AreFrames}
use Rattle.facts_check.specs.Tables.{AreFilled, Links, Holds, IsStarted, IsLinkHeld, IsOpenEnded}
use Rattle.facts_check.proofs.Orders.{below_any, below_trans, below_all_trans, put_sized_below}
use Rattle.facts_check.proofs.Landings.{landed, one_lands, one_goes}

-- ---- lists

-- an element stands at a place
pub record IsAt {X : Type 0} (xs : List X) (x : X) : Type 0 where
  pub place : ℕ
  pub is : slice_get xs place ≡ Some x

place_of : {X : Type 0} (xs : List X) (x : X) → Contains xs x → IsAt xs x
place_of [] x (j, lt, e) = absurd (omega arith)
place_of (y ∷ ys) x (zero, lt, e) = record { place = 0; is = ap Some e }
place_of (y ∷ ys) x (suc j, lt, e) = let r = place_of ys x (j, omega arith, e) in record { place = suc r.place; is = r.is }

and_left : (a b : Bool) → (a && b) ≡ true → a ≡ true
and_left true b h = refl
and_left false b h = h

and_right : (a b : Bool) → (a && b) ≡ true → b ≡ true
and_right true b h = h
and_right false b h = absurd (true≢false (sym h))

all_at : {X : Type 0} (test : X → Bool) (xs : List X) (x : X) → list_all test xs ≡ true → Contains xs x → test x ≡ true
all_at test [] x h (j, lt, e) = absurd (omega arith)
all_at test (y ∷ ys) x h (zero, lt, e) = ap test (sym e) ∙ and_left (test y) (list_all test ys) h
all_at test (y ∷ ys) x h (suc j, lt, e) = all_at test ys x (and_right (test y) (list_all test ys) h) (j, omega arith, e)

-- what is read past the end
read_past : (xs : List Parts) (i : ℕ) (d : Parts) → slice_get xs i ≡ None → slice_index_or xs i d ≡ d
read_past [] i d e = refl
read_past (x ∷ xs) zero d e = absurd (cc)
read_past (x ∷ xs) (suc i) d e = read_past xs i d e

some_body : (a b : Body) → Some a ≡ Some b → a ≡ b
some_body a b e = cc

-- ---- calls and results

module _ (k : Known) (class : ℕ) where
  abbrev p : Program
  p = k.program.now

  module _ (links : Links k) (bare : (at : MethodAt) (m : Method) → method_at k.program.now at ≡ Some m → m.body ≡ None → IsOpenEnded k m.name) (any : k.facts.now.any ≡ any_value) where
    link_at : (link : Link) → Contains k.targets.now.links.items link → IsLinkHeld k link
    link_at link c = let at = place_of k.targets.now.links.items link c in links.linked at.place link at.is

    -- what a call may enter gives no more than is held to be its result
    called_below : (kind : InvokeKind) (method m : ℕ) (coded : Bool) (v : Parts) → MayCall p k.targets.now class method kind m coded → HoldsResult k class kind method v → IsBelow (result_at k.facts.now m) v
    called_below call.Static method m coded v (Bound kind at md e f) h = h.given at md e f
    called_below call.Direct method m coded v (Bound kind at md e f) h = h.given at md e f
    called_below call.Super method m coded v (Bound kind at md e f) h = h.given at md e f
    called_below call.Virtual method m coded v (Bound kind at md e f) h = absurd (cc)
    called_below call.Interface method m coded v (Bound kind at md e f) h = absurd (cc)
    called_below call.Static method m coded v (Linked kind link e c) h = absurd (cc)
    called_below call.Direct method m coded v (Linked kind link e c) h = absurd (cc)
    called_below call.Super method m coded v (Linked kind link e c) h = absurd (cc)
    called_below call.Virtual method m coded v (Linked kind link e c) h = let i : 2 * method ≡ link.call = cc in
        below_trans (result_at k.facts.now link.method) (answer_at k link.call) v (link_at link c).given (subst (λ n. IsBelow (answer_at k n) v) i h.answered)
    called_below call.Interface method m coded v (Linked kind link e c) h = let i : 2 * method + 1 ≡ link.call = cc in
        below_trans (result_at k.facts.now link.method) (answer_at k link.call) v (link_at link c).given (subst (λ n. IsBelow (answer_at k n) v) i h)

    left_below : (kind : InvokeKind) (method : ℕ) (v : Parts) → MayLeave p k.targets.now class method kind → HoldsResult k class kind method v → IsBelow any_value v
    left_below call.Static method v (Unfound kind b e) h = h.unfound e
    left_below call.Direct method v (Unfound kind b e) h = h.unfound e
    left_below call.Super method v (Unfound kind b e) h = h.unfound e
    left_below call.Virtual method v (Unfound kind b e) h = absurd b
    left_below call.Interface method v (Unfound kind b e) h = absurd b
    left_below call.Static method v (Bare kind at m e f g) h = below_trans any_value (result_at k.facts.now m.name) v (bare at m f g).gives (h.given at m e f)
    left_below call.Direct method v (Bare kind at m e f g) h = below_trans any_value (result_at k.facts.now m.name) v (bare at m f g).gives (h.given at m e f)
    left_below call.Super method v (Bare kind at m e f g) h = below_trans any_value (result_at k.facts.now m.name) v (bare at m f g).gives (h.given at m e f)
    left_below call.Virtual method v (Bare kind at m e f g) h = absurd (cc)
    left_below call.Interface method v (Bare kind at m e f g) h = absurd (cc)
    left_below call.Static method v (Marked kind number e f) h = absurd (cc)
    left_below call.Direct method v (Marked kind number e f) h = absurd (cc)
    left_below call.Super method v (Marked kind number e f) h = absurd (cc)
    left_below call.Virtual method v (ByInterface e) h = h.unlisted e
    left_below call.Virtual method v (Marked kind number e f) h = let i : 2 * method ≡ number = cc in
        below_trans any_value (answer_at k number) v (links.left number f) (subst (λ n. IsBelow (answer_at k n) v) i h.answered)
    left_below call.Interface method v (Marked kind number e f) h = let i : 2 * method + 1 ≡ number = cc in
        below_trans any_value (answer_at k number) v (links.left number f) (subst (λ n. IsBelow (answer_at k n) v) i h)

    pub results_below : (t : Facts) → ((m : ℕ) → result_at t m ≡ result_at k.facts.now m) → (i : Insn) (v w : Parts) → Results p k.targets.now t class i v → HoldsResults k class i w → IsBelow v w
    results_below t same i v w (Given kind method m args coded c) h = subst (λ z. IsBelow z w) (sym (same m)) (called_below kind method m coded w c h)
    results_below t same i v w (Left kind method args l) h = left_below kind method w l h
    results_below t same i v w (Filled kind args) h = h

    -- what it may enter is passed its arguments, and is entered where it has code
    pub record IsReceived (m : ℕ) (coded : Bool) (args : List ℕ) (x : Registers) : Type 0 where
      pub words : (i r : ℕ) → slice_get args i ≡ Some r → IsBelow (value_at x r) (parameter_at k.facts.now m i)
      pub entered : coded ≡ true → is_marked k.marks.now.entered.items m ≡ true

    by_name : (method : ℕ) (kind : InvokeKind) (args : List ℕ) (x : Registers) (at : MethodAt) (m : Method) → IsBoundCall k class method kind args x → finds_bound p class method kind ≡ Finds at → method_at p at ≡ Some m → IsReceived m.name (is_some m.body) args x
    by_name method kind args x at m h e f = let c = h.calls at m e f in record { words = c.passed; entered = c.entered }

    -- a word of a pool comes to a parameter, or past them, where anything may come
    word_below : (link : Link) (i : ℕ) (v : Parts) → IsBelow v (value_at (pool_at k link.call) i)
        → ((i : ℕ) (w : Parts) → slice_get (slice_index_or k.facts.now.parameters.items link.method []) i ≡ Some w → IsBelow (value_at (pool_at k link.call) i) w) → IsBelow v (parameter_at k.facts.now link.method i)
    word_below link i v h f = by (slice_get words i) refl
      where
        words : List Parts
        words = slice_index_or k.facts.now.parameters.items link.method []

        by : (o : Option Parts) → slice_get words i ≡ o → IsBelow v (parameter_at k.facts.now link.method i)
        by (Some w) e = subst (IsBelow v) (sym (get_or_from_slice_get words i w k.facts.now.any e)) (below_trans v (value_at (pool_at k link.call) i) w h (f i w e))
        by None e = subst (IsBelow v) (sym (read_past words i k.facts.now.any e ∙ any)) (below_any v)

    by_link : (number : ℕ) (args : List ℕ) (x : Registers) (link : Link) → IsPooled k number args x → number ≡ link.call → Contains k.targets.now.links.items link → IsReceived link.method true args x
    by_link number args x link h e c =
        let l = link_at link c in
        let made : is_made k link.call ≡ true = subst (λ n. is_made k n ≡ true) e h.made in
        let w = λ (i r : ℕ) (s : slice_get args i ≡ Some r). subst (λ n. IsBelow (value_at x r) (value_at (pool_at k n) i)) e (h.words i r s) in
        record { words = λ i r s. word_below link i (value_at x r) (w i r s) (l.passed made); entered = λ z. l.entered made }

    pub received : (kind : InvokeKind) (method m : ℕ) (coded : Bool) (args : List ℕ) (x : Registers) → MayCall p k.targets.now class method kind m coded → HoldsCall k class kind method args x → IsReceived m coded args x
    received call.Static method m coded args x (Bound kind at md e f) h = by_name method call.Static args x at md h e f
    received call.Direct method m coded args x (Bound kind at md e f) h = by_name method call.Direct args x at md h e f
    received call.Super method m coded args x (Bound kind at md e f) h = by_name method call.Super args x at md h e f
    received call.Virtual method m coded args x (Bound kind at md e f) h = absurd (cc)
    received call.Interface method m coded args x (Bound kind at md e f) h = absurd (cc)
    received call.Static method m coded args x (Linked kind link e c) h = absurd (cc)
    received call.Direct method m coded args x (Linked kind link e c) h = absurd (cc)
    received call.Super method m coded args x (Linked kind link e c) h = absurd (cc)
    received call.Virtual method m coded args x (Linked kind link e c) h = by_link (2 * method) args x link h (cc) c
    received call.Interface method m coded args x (Linked kind link e c) h = by_link (2 * method + 1) args x link h (cc) c

    -- a call that finds by an object has a receiver, which is passed too
    pub received_on : (kind : InvokeKind) (method m : ℕ) (coded : Bool) (args : List ℕ) (x : Registers) → (IsBound kind → ⊥) → MayCall p k.targets.now class method kind m coded → HoldsCall k class kind method args x
        → IsBelow (value_at x (receiver args)) (parameter_at k.facts.now m 0)
    received_on call.Static method m coded args x b c h = absurd (b tt)
    received_on call.Direct method m coded args x b c h = absurd (b tt)
    received_on call.Super method m coded args x b c h = absurd (b tt)
    received_on call.Virtual method m coded args x b c h = (received call.Virtual method m coded args x c h).words 0 (receiver args) h.on
    received_on call.Interface method m coded args x b c h = (received call.Interface method m coded args x c h).words 0 (receiver args) h.on

-- ---- puts

puts_hold : (k : Known) (item : Item) (from field own : ℕ) (i : Insn) (x : Registers) → Puts item from field i → own_number k.program.now field ≡ Some own → HoldsPuts k i x → HoldsPut k (Some own) (stored_value item (value_at x from))
puts_hold k item from field own i x (Instance on) e h = subst (λ o. HoldsPut k o (stored_value item (value_at x from))) e h
puts_hold k item from field own i x Static e h = subst (λ o. HoldsPut k o (stored_value item (value_at x from))) e h

-- ---- all of it

module _ (k : Known) (frames : Vec (List (Option Frame)) Global) (quiet : Vec Bool Global) (known : AreKnown k) (filled : AreFilled k frames.items) (holds : Holds k frames.items) where
  abbrev t : Facts
  t = record k.facts.now { frames = frames; quiet = quiet }

  open_ended : (at : MethodAt) (m : Method) → method_at k.program.now at ≡ Some m → m.body ≡ None → IsOpenEnded k m.name
  open_ended at m e f = by (slice_get k.program.now.classes at.class) refl e
    where
      by : (o : Option Class) → slice_get k.program.now.classes at.class ≡ o → option_and_then (λ (c : Class). slice_get c.methods at.place) o ≡ Some m → IsOpenEnded k m.name
      by None j g = absurd (cc)
      by (Some c) j g = holds.entries.bare at.class c j at.place m g f

  module _ (at : MethodAt) (n : ℕ) (here : At k.program.now t at n) where
    own : AreFrames k at.class here.method.name here.body (slice_index_or frames.items here.method.name [])
    own = filled.has at here.method here.body here.has_method here.has_body

    link : IsLinked k at.class here.method.name here.body own.starts (slice_index_or frames.items here.method.name []) n
    link = own.filled.linked n (slice_get_within here.body.insns n here.insn here.has_insn)

    placed : IsPlaced k at.class here.method.name here.body own.starts n (insn_before here.body.insns n) here.insn here.registers link.next
    placed = link.step.placed here.insn here.registers here.has_insn here.reached

    lands : (q : ℕ) (x : Registers) → Lands (slice_get own.starts q) x → Arrives x (registers_at t here.method.name q)
    lands q x h = let l = landed own.starts q x h in subst (Arrives x) (sym (own.filled.kept q l.known l.is)) l.below

    goes_on : (q : ℕ × Registers) → Goes own.starts n link.next q → Arrives q.1 (registers_at t here.method.name q.0)
    goes_on q (inl h) = lands q.0 q.1 h
    goes_on q (inr h) = subst (λ m. Arrives q.1 (registers_at t here.method.name m)) (sym h.0) (link.onto q.1 h.1)

  same_method : (at : MethodAt) (m n : ℕ) (one : At k.program.now t at m) (two : At k.program.now t at n) → one.method ≡ two.method
  same_method at m n one two = let e : Some one.method ≡ Some two.method = sym one.has_method ∙ two.has_method in cc

  same_body : (at : MethodAt) (m n : ℕ) (one : At k.program.now t at m) (two : At k.program.now t at n) → one.body ≡ two.body
  same_body at m n one two = some_body one.body two.body (sym one.has_body ∙ ap (λ (m : Method). m.body) (same_method at m n one two) ∙ two.has_body)

  taken : (at : MethodAt) (n to : ℕ) (s : Slot) (v : Parts) (here : At k.program.now t at n) (taker : At k.program.now t at (n + 1)) → taker.insn ≡ insn.MoveResult s to
      → Results k.program.now k.targets.now t at.class here.insn v → Arrives (put_sized (is_wide_slot s) to v taker.registers) (registers_at t here.method.name (n + 2))
  taken at n to s v here taker e r =
      let l = link at (n + 1) taker in
      let h : HoldsTaken k at.class (insn_before taker.body.insns (n + 1)) (insn.MoveResult s to) taker.registers l.next = subst (λ i. HoldsTaken k at.class (insn_before taker.body.insns (n + 1)) i taker.registers l.next) e (placed at (n + 1) taker).taken in
      let before : insn_before taker.body.insns (n + 1) ≡ Some here.insn = ap (insn_before taker.body.insns) (add-one n) ∙ ap (λ (b : Body). slice_get b.insns n) (same_body at (n + 1) n taker here) ∙ here.has_insn in
      let behind : HoldsResults k at.class here.insn h.value = subst (λ o. HoldsBehind k at.class o h.value) before h.behind in
      let below : IsBelow v h.value = results_below k at.class holds.links open_ended known.any t (λ m. refl) here.insn v h.value r behind in
      let on : Arrives (put_sized (is_wide_slot s) to h.value taker.registers) (registers_at t taker.method.name (n + 1 + 1)) = l.onto (put_sized (is_wide_slot s) to h.value taker.registers) h.handed in
      let names : taker.method.name ≡ here.method.name = ap (λ (m : Method). m.name) (same_method at (n + 1) n taker here) in
      let two : n + 1 + 1 ≡ n + 2 = omega arith in
      let on2 = subst (λ q. Arrives (put_sized (is_wide_slot s) to h.value taker.registers) (registers_at t here.method.name q)) two (subst (λ m. Arrives (put_sized (is_wide_slot s) to h.value taker.registers) (registers_at t m (n + 1 + 1))) names on) in
      arrives_below (registers_at t here.method.name (n + 2)) (put_sized (is_wide_slot s) to v taker.registers) (put_sized (is_wide_slot s) to h.value taker.registers) on2 (put_sized_below (is_wide_slot s) to taker.registers v h.value below)
    where
      arrives_below : (o : Option Registers) (x y : Registers) → Arrives y o → AreBelow x y → Arrives x o
      arrives_below None x y a b = absurd a
      arrives_below (Some z) x y a b = below_all_trans x y z b a

  flows : Flows k.program.now k.targets.now t
  flows = record {
    onward = λ at n q here c. goes_on at n here q (one_goes (own at n here).starts n (link at n here).next (edges k.program.now t n here.insn here.registers) q (placed at n here).goes c);
    taken = taken;
    thrown = λ at n q here c. lands at n here q here.registers (one_lands (own at n here).starts here.registers (thrown_to here.body.regions n here.insn) q (placed at n here).thrown c);
  }

  calls_hold : (at : MethodAt) (n method : ℕ) (kind : InvokeKind) (args : List ℕ) (here : At k.program.now t at n) → here.insn ≡ insn.Invoke kind method args → HoldsCall k at.class kind method args here.registers
  calls_hold at n method kind args here e = subst (λ i. HoldsCalls k at.class i here.registers) e (placed at n here).calls

  call_of : (at : MethodAt) (n method m : ℕ) (kind : InvokeKind) (args : List ℕ) (coded : Bool) (here : At k.program.now t at n) → here.insn ≡ insn.Invoke kind method args → MayCall k.program.now k.targets.now at.class method kind m coded
      → IsReceived k at.class holds.links open_ended known.any m coded args here.registers
  call_of at n method m kind args coded here e c = received k at.class holds.links open_ended known.any kind method m coded args here.registers c (calls_hold at n method kind args here e)

  calls : Calls k.program.now k.targets.now t
  calls = record {
    passes = λ at n i r method m kind args coded here e c s. (call_of at n method m kind args coded here e c).words i r s;
    receives = λ at n method m kind args coded here e b c. received_on k at.class holds.links open_ended known.any kind method m coded args here.registers b c (calls_hold at n method kind args here e);
    enters = λ at n method m kind args here e c. holds.entries.entered m ((call_of at n method m kind args true here e c).entered refl);
  }

  returns : Returns k.program.now t
  returns at n from s here e = subst (λ i. HoldsReturn k here.method.name i here.registers) e (placed at n here).returns

  fields : HoldsFields k.program.now k.outside.now t
  fields = record {
    firsts = λ at f e. first at f (slice_get k.program.now.classes at.0) refl e;
    opened = λ at f e c. let i = place_of k.outside.now.fields f.name c in holds.fields.opened i.place f.name i.is;
    puts = λ at n from field o item here q e. puts_hold k item from field o here.insn here.registers q e (placed at n here).puts;
  }
    where
      first : (at : ℕ × ℕ) (f : Field) (o : Option Class) → slice_get k.program.now.classes at.0 ≡ o → option_and_then (λ (c : Class). slice_get c.fields at.1) o ≡ Some f → IsBelow (begun_parts k.program.now f) (field_at t f.name)
      first at f None i e = absurd (cc)
      first at f (Some c) i e = holds.fields.firsts at.0 c i at.1 f e

  -- ---- classes

  started : (c : ℕ) (class : Class) → slice_get k.program.now.classes c ≡ Some class → IsStarted k c class
  started = holds.classes.started

  starts : Starts k.program.now k.targets.now t
  starts = record {
    marked = λ c. is_marked k.marks.now.needed.items c;
    listed = λ c. is_marked k.marks.now.listed.items c;
    by_framework = holds.classes.begun;
    by_code = λ at n c here h. all_at (is_marked k.marks.now.needed.items) (needs k.program.now here.insn) c (placed at n here).needed h;
    above = λ c u m i e. above c u (slice_get k.program.now.classes c) refl m i e;
    lists = λ c u v m i e. lists c u v (slice_get k.program.now.classes c) refl m i e;
    lists_above = λ c u m i e. lists_above c u (slice_get k.program.now.classes c) refl m i e;
    defaults = λ c m i e. defaults c (slice_get k.program.now.classes c) refl m i e;
    initialisers = λ c i m h e f. initialisers c i m (slice_get k.program.now.classes c) refl h e f;
  }
    where
      above : (c u : ℕ) (o : Option Class) → slice_get k.program.now.classes c ≡ o → is_marked k.marks.now.needed.items c ≡ true → is_interface o ≡ false → super_place k.program.now c ≡ Some u → is_marked k.marks.now.needed.items u ≡ true
      above c u None i m f e = absurd (let s : None ≡ Some u = sym (ap (option_and_then (λ (c : Class). class_place k.program.now c.superclass)) i) ∙ e in cc)
      above c u (Some class) i m f e = (started c class i).needed.above m f u e

      lists : (c u : ℕ) → is_037 k.program.now.version ≡ true → (o : Option Class) → slice_get k.program.now.classes c ≡ o → is_marked k.marks.now.needed.items c ≡ true → is_interface o ≡ false → Contains (interface_places k.program.now c) u → is_marked k.marks.now.listed.items u ≡ true
      lists c u v None i m f e = absurd (let s : Contains [] u = subst (λ o. Contains (listed k.program.now o) u) i e in let l : s.0 < 0 = s.1 in omega (arith, l))
      lists c u v (Some class) i m f e = let a = place_of (interface_places k.program.now c) u e in (started c class i).needed.lists m f v a.place u a.is

      lists_above : (c u : ℕ) (o : Option Class) → slice_get k.program.now.classes c ≡ o → is_marked k.marks.now.listed.items c ≡ true → is_interface o ≡ true → Contains (interface_places k.program.now c) u → is_marked k.marks.now.listed.items u ≡ true
      lists_above c u None i m f e = absurd (true≢false (sym f))
      lists_above c u (Some class) i m f e = let a = place_of (interface_places k.program.now c) u e in (started c class i).listed.above m f a.place u a.is

      defaults : (c : ℕ) (o : Option Class) → slice_get k.program.now.classes c ≡ o → is_marked k.marks.now.listed.items c ≡ true → is_interface o ≡ true → has_default k.program.now o ≡ true → is_marked k.marks.now.needed.items c ≡ true
      defaults c None i m f e = absurd (true≢false (sym f))
      defaults c (Some class) i m f e = (started c class i).listed.defaults m f e

      initialisers : (c i : ℕ) (m : Method) (o : Option Class) → slice_get k.program.now.classes c ≡ o → is_marked k.marks.now.needed.items c ≡ true → initialiser_place k.program.now c ≡ Some i → method_at k.program.now (record { class = c; place = i }) ≡ Some m → IsEntered t m.name
      initialisers c i m None j h e f = absurd (let s : None ≡ Some m = sym (ap (option_and_then (λ (c : Class). slice_get c.methods i)) j) ∙ f in cc)
      initialisers c i m (Some class) j h e f = holds.entries.entered m.name ((started c class j).needed.initialiser h i m e f)

  bare : LeavesOpen k.program.now t
  bare at m i e f = (open_ended at m e f).takes i

  pub are_closed : AreClosed k.program.now k.outside.now k.live.now k.targets.now t
  are_closed = record {
    any = known.any;
    reached_live = λ at n here. (own at n here).live n here.registers here.reached;
    entries = record {
      opens = λ m e. let o = holds.entries.opened m e in record { entered = holds.entries.entered m o.marked; parameters = o.takes };
      starts = starts;
    };
    begins = λ at m b x e f g. let r = (filled.has at m b e f).begins x g in record { arguments = r.arguments; others = r.others };
    fields = fields;
    flows = flows;
    calls = calls;
    returns = returns;
    bare = bare;
  }
