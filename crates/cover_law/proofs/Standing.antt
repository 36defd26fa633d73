-- Where a frame stands on the facts: what arrives where it goes on, also at a handler, and once a class is done.
use Rattle.std.proofs.Common.{◌≡◌, ℕ, zero, suc, ◌+◌, ◌<◌, ℤ, Bool, true, false, true≢false, List, [], ◌∷◌, ◌++◌, Option, Some, None, ◌⊎◌, inl, inr, refl, sym, ap, ◌∙◌, subst, arith}
use Rattle.std.specs.Prelude.{not, map, find, slice_get, Contains}
use Rattle.std.specs.Option.{option_map, option_and_then}
use Rattle.insn_set.specs.declared.ops.Slot.{Slot}
use Rattle.dalvik_defs.specs.Names.{Text}
use Rattle.dalvik_defs.specs.Face.{bodies_of}
use Rattle.dalvik_defs.specs.Outer.{Outer}
use Rattle.dalvik_defs.specs.State.{World, kind_of}
use Rattle.dalvik_defs.specs.Effect.{register, go}
use Rattle.dalvik_defs.specs.Stack.{form_at as form_of, handler_in, handler_at}
use Rattle.dalvik_defs.specs.declared.state.Value.{Value}
use Rattle.dalvik_defs.specs.declared.state.Value.TheVariants.{Word}
use Rattle.dalvik_defs.specs.declared.state.Frame.{Frame}
use Rattle.dalvik_defs.specs.declared.forms.Form.{Form}
use Rattle.dalvik_defs.specs.declared.forms.Form.TheVariants as form
use Rattle.dalvik_defs.specs.declared.program.NamedBody.{NamedBody}
use Rattle.dalvik_defs.specs.declared.program.NamedHandler.{NamedHandler}
use Rattle.dalvik_defs.specs.declared.program.NamedRegion.{NamedRegion}
use Rattle.dalvik_defs.specs.declared.program.NamedProgram.{NamedProgram}
use Rattle.dalvik_defs.specs.declared.tables.Floats.{Floats}
use Rattle.dalvik_defs.specs.declared.tables.Framework.{Framework}
use Rattle.pass_defs.specs.Bare.{may_throw}
use Rattle.pass_defs.specs.Quiet.{takes_result}
use Rattle.pass_defs.specs.Walks.{form_at, handlers_at, handlers_of, region_at, listed, onward, caught}
use Rattle.pass_defs.specs.Analysis.{Analysis}
use Rattle.pass_defs.specs.Facts.{Facts, needs}
use Rattle.pass_defs.specs.Registers.{kind_at}
use Rattle.run_facts.specs.Closed.{At, Arrives, put_sized, is_wide_slot, refined, refined_both, arm, cases, keys_of, switched, edges, after, packed_keys}
use Rattle.run_laws.specs.Fine.{IsThere}
use Rattle.run_laws.specs.Invariant.{Above, Begun, Grows}
use Rattle.run_facts.specs.Covered.{SeesAll, Stands, TakesFrom, CoversTop, CoversWaiting}
use Rattle.program_laws.specs.Results.{gives_result, takes_none, TakesInPlace}
use Rattle.run_laws.specs.TypedStates.{TypedFrame, TypedWaiting}
use Rattle.run_laws.proofs.Settled.{IsSettled}
use Rattle.run_laws.proofs.Registers.{there_held, all_at}
use Rattle.run_laws.proofs.Climbs.{none_some, some_one, found_in_list}
use Rattle.run_laws.proofs.Here.{all_in, into_left, into_right, into_map, own_body}
use Rattle.run_laws.proofs.Forms.{first_in, later_in}
use Rattle.cover_law.proofs.Ready.{IsReady}
use Rattle.cover_law.proofs.Along.{sees_later, read}

-- ---- lists

nowhere : {A B : Type 0} (x : A) → Contains [] x → B
nowhere x h = let l : h.0 < 0 = h.1 in absurd (omega (arith, l))

pub split_in : {A : Type 0} (xs ys : List A) (z : A) → Contains (xs ++ ys) z → Contains xs z ⊎ Contains ys z
split_in [] ys z h = inr h
split_in (x ∷ xs) ys z (zero, l, e) = inl (zero, omega arith, e)
split_in (x ∷ xs) ys z (suc n, l, e) = by (split_in xs ys z (n, omega (arith, l), e))
  where
    by : Contains xs z ⊎ Contains ys z → Contains (x ∷ xs) z ⊎ Contains ys z
    by (inl h) = inl (suc h.0, omega (arith, h.1), h.2)
    by (inr h) = inr h

-- ---- handlers

handler_listed : (above : Text → Bool) (b : NamedBody) (n q : ℕ) → handler_at above n b ≡ Some q → Contains (handlers_at b n) q
handler_listed above b n q e = by (region_at b n) refl e
  where
    in_region : (r : NamedRegion) → (y : Option NamedHandler) → find (λ h. above h.kind) r.handlers ≡ y → (elim y as (λ y. Option ℕ) [ Some h ↦ Some h.position | None ↦ r.rest ]) ≡ Some q → Contains (handlers_of (Some r)) q
    in_region r None i j = into_right (map (λ h. h.position) r.handlers) (listed r.rest) q (subst (λ z. Contains (listed z) q) (sym j) (first_in q []))
    in_region r (Some h) i j = into_left (map (λ h. h.position) r.handlers) (listed r.rest) q (subst (Contains (map (λ h. h.position) r.handlers)) (some_one h.position q j) (into_map (λ h. h.position) r.handlers h (found_in_list (λ h. above h.kind) r.handlers h i)))

    by : (y : Option NamedRegion) → region_at b n ≡ y → option_and_then (handler_in above) y ≡ Some q → Contains (handlers_of y) q
    by None i j = none_some q j
    by (Some r) i j = in_region r (find (λ h. above h.kind) r.handlers) refl j

module _ {V : Type 0} (a : Analysis V) (p : NamedProgram) (facts : Facts V) where
  -- ---- where edges go

  arm_to : (n : ℕ) (o : Option (ℕ → V)) (q : ℕ × (ℕ → V)) → Contains (arm a n o) q → q.0 ≡ n
  arm_to n None q h = nowhere q h
  arm_to n (Some x) q (zero, l, e) = sym (ap (λ (z : ℕ × (ℕ → V)). z.0) e)
  arm_to n (Some x) q (suc m, l, e) = nowhere q (m, omega (arith, l), e)

  cases_to : (on : ℕ) (ks : List ℤ) (ts : List ℕ) (x : ℕ → V) (q : ℕ × (ℕ → V)) → Contains (cases a on ks ts x) q → Contains ts q.0
  cases_to on [] ts x q h = nowhere q h
  cases_to on (k ∷ ks) [] x q h = nowhere q h
  cases_to on (k ∷ ks) (t ∷ ts) x q h = by (split_in (arm a t (refined a on (a.keyed k (x on)) x)) (cases a on ks ts x) q h) (λ i. cases_to on ks ts x q i)
    where
      by : Contains (arm a t (refined a on (a.keyed k (x on)) x)) q ⊎ Contains (cases a on ks ts x) q → (Contains (cases a on ks ts x) q → Contains ts q.0) → Contains (t ∷ ts) q.0
      by (inl i) more = subst (Contains (t ∷ ts)) (sym (arm_to t (refined a on (a.keyed k (x on)) x) q i)) (first_in t ts)
      by (inr i) more = later_in q.0 t ts (more i)

  either_to : (n m : ℕ) (y z : Option (ℕ → V)) (q : ℕ × (ℕ → V)) → Contains (arm a n y ++ arm a m z) q → Contains (n ∷ m ∷ []) q.0
  either_to n m y z q h = by (split_in (arm a n y) (arm a m z) q h)
    where
      by : Contains (arm a n y) q ⊎ Contains (arm a m z) q → Contains (n ∷ m ∷ []) q.0
      by (inl i) = subst (Contains (n ∷ m ∷ [])) (sym (arm_to n y q i)) (first_in n (m ∷ []))
      by (inr i) = subst (Contains (n ∷ m ∷ [])) (sym (arm_to m z q i)) (later_in m n (m ∷ []) (first_in m []))

  switch_to : (on : ℕ) (ks : List ℤ) (ts : List ℕ) (n : ℕ) (x : ℕ → V) (q : ℕ × (ℕ → V)) → Contains (switched a on ks ts n x) q → Contains ((n + 1) ∷ ts) q.0
  switch_to on ks ts n x q h = by (split_in (arm a (n + 1) y) (cases a on ks ts x) q h)
    where
      y : Option (ℕ → V)
      y = refined a on (a.unkeyed (keys_of a ks ts) (x on)) x

      by : Contains (arm a (n + 1) y) q ⊎ Contains (cases a on ks ts x) q → Contains ((n + 1) ∷ ts) q.0
      by (inl i) = subst (Contains ((n + 1) ∷ ts)) (sym (arm_to (n + 1) y q i)) (first_in (n + 1) ts)
      by (inr i) = later_in q.0 (n + 1) ts (cases_to on ks ts x q i)

  next_to : (n : ℕ) (o : Option (ℕ → V)) (q : ℕ × (ℕ → V)) → Contains (arm a (n + 1) o) q → Contains ((n + 1) ∷ []) q.0
  next_to n o q h = subst (Contains ((n + 1) ∷ [])) (sym (arm_to (n + 1) o q h)) (first_in (n + 1) [])

  pub edges_onward : (n : ℕ) (y : Form) (x : ℕ → V) (q : ℕ × (ℕ → V)) → Contains (edges a p facts n y x) q → Contains (onward y n) q.0
  edges_onward n form.ReturnVoid x q h = nowhere q h
  edges_onward n (form.Return slot from) x q h = nowhere q h
  edges_onward n (form.Throw on) x q h = nowhere q h
  edges_onward n (form.Goto target) x q h = by h
    where
      by : Contains ((target, x) ∷ []) q → Contains (target ∷ []) q.0
      by (zero, l, e) = subst (Contains (target ∷ [])) (ap (λ (z : ℕ × (ℕ → V)). z.0) e) (first_in target [])
      by (suc m, l, e) = nowhere q (m, omega (arith, l), e)
  edges_onward n (form.PackedSwitch on first targets) x q h = switch_to on (packed_keys first 0 targets) targets n x q h
  edges_onward n (form.SparseSwitch on keys targets) x q h = switch_to on keys targets n x q h
  edges_onward n (form.If test r s target) x q h = either_to (n + 1) target (refined_both a r s (a.tested false test (x r) (x s)) x) (refined_both a r s (a.tested true test (x r) (x s)) x) q h
  edges_onward n (form.IfZero test r target) x q h = either_to (n + 1) target (refined a r (option_map (λ v. v.0) (a.tested false test (x r) (a.known (Word 0)))) x) (refined a r (option_map (λ v. v.0) (a.tested true test (x r) (a.known (Word 0)))) x) q h
  edges_onward n y x q h = next_to n (after a p facts y x) q h

module _ {V : Type 0} (a : Analysis V) (p : NamedProgram) (o : Outer) (f : Framework) (floats : Floats) (facts : Facts V) (base : IsReady a p o f floats facts) (reg : IsSettled p) where
  -- what registers hold is there
  pub reg_there : (w : World) (g : Frame) → TypedFrame p f w g → (r : ℕ) → IsThere w (register g r)
  reg_there w g t r = there_held p f t.in_method.class.name w (kind_at t.kinds.registers r) (register g r) (all_at p f t.in_method.class.name w t.kinds.registers g.registers r t.holds.registers)

  -- a body of the program takes results in their places
  pub in_place : (w : World) (g : Frame) (t : TypedFrame p f w g) → TakesInPlace t.in_method.body
  in_place w g t = base.places t.in_method.class t.in_method.method t.in_method.body t.in_method.class_in t.in_method.method_in (own_body p o f floats reg w g t)

  pub own_form : (w : World) (g : Frame) (t : TypedFrame p f w g) (y : Form) → form_at t.in_method.body g.position ≡ Some y → form_of (bodies_of p) g ≡ Some y
  own_form w g t y e = ap (λ y. option_and_then (λ b. slice_get b.forms g.position) y) (ap (bodies_of p) t.of ∙ t.in_method.has_body) ∙ e

  -- a position that the facts reach, with the body that the typing has
  abbrev pub at_typed : (w : World) (g : Frame) (t : TypedFrame p f w g) (y : Form) (x : ℕ → V) → form_at t.in_method.body g.position ≡ Some y → facts.registers g.method g.position ≡ Some x → At a p facts g.method g.position
  at_typed w g t y x e r = record { body = t.in_method.body; form = y; registers = x; has_body = ap (bodies_of p) t.of ∙ t.in_method.has_body; has_form = e; reached = r }

  -- ---- later worlds

  pub all_later : (w w1 : World) (x : ℕ → V) (g : Frame) → TypedFrame p f w g → Grows w w1 → SeesAll a p o facts x w g.registers → SeesAll a p o facts x w1 g.registers
  all_later w w1 x g t gr h r v e = sees_later a p facts w w1 (x r) v gr (subst (IsThere w) (read g.registers r v (Word 0) e) (reg_there w g t r)) (h r v e)

  pub waits_later : (w w1 : World) (above : Above) (g : Frame) → Grows w w1 → TypedWaiting p f w above g → CoversWaiting a p o facts w above g → CoversWaiting a p o facts w1 above g
  waits_later w w1 above g gr t h = record {
    stands = record { registers = h.stands.registers; reached = h.stands.reached; hold = all_later w w1 h.stands.registers g t.frame gr h.stands.hold };
    form = h.form;
    has_form = h.has_form;
    awaits = h.awaits;
    past = h.past;
  }

  -- ---- what arrives

  pub arrives : (w : World) (vs : List Value) (x : ℕ → V) (z : Option (ℕ → V)) → SeesAll a p o facts x w vs → Arrives a x z → (y : ℕ → V) × (z ≡ Some y) × SeesAll a p o facts y w vs
  arrives w vs x None h k = absurd k
  arrives w vs x (Some y) h k = (y, refl, λ r v e. base.sound.grows (x r) (y r) (kind_of w v) v (k r) (h r v e))

  -- ---- a class is done: the frame tries again

  pub retried : (w : World) (u : Text) (g : Frame) → CoversWaiting a p o facts w (Begun u) g → CoversTop a p o facts w g
  retried w u g h = record { stands = h.stands; takes = λ s to e. takes_none_here h.form h.awaits s to (some_one h.form (form.MoveResult s to) (sym h.has_form ∙ e)) }
    where
      takes_none_here : (y : Form) → Contains (needs p y) u → (s : Slot) (to : ℕ) → y ≡ form.MoveResult s to → TakesFrom a p o facts w g
      takes_none_here y c s to e = nowhere u (subst (λ z. Contains (needs p z) u) e c)

  module _ (w : World) (g : Frame) (t : TypedFrame p f w g) (y : Form) (has : form_at t.in_method.body g.position ≡ Some y) (st : Stands a p o facts w g) where
    abbrev here : At a p facts g.method g.position
    here = at_typed w g t y st.registers has st.reached

    not_taken : (b : Bool) (z : Option Form) (s : Slot) (to : ℕ) {A : Type 0} → takes_result z ≡ b → not b ≡ true → z ≡ Some (form.MoveResult s to) → A
    not_taken b z s to e i j = absurd (true≢false (sym i ∙ (ap not (sym e) ∙ ap (λ z. not (takes_result z)) j)))

    -- another position of the body takes no result
    untaken : (q : ℕ) (g1 : Frame) → g1.method ≡ g.method → g1.position ≡ q → takes_none t.in_method.body q ≡ true → (w1 : World) (s : Slot) (to : ℕ) → form_of (bodies_of p) g1 ≡ Some (form.MoveResult s to) → TakesFrom a p o facts w1 g1
    untaken q g1 em ep e w1 s to i = not_taken (takes_result (form_at t.in_method.body q)) (form_at t.in_method.body q) s to refl e
        (sym (ap (λ b. option_and_then (λ b. slice_get b.forms g1.position) b) (ap (bodies_of p) (em ∙ t.of) ∙ t.in_method.has_body) ∙ ap (form_at t.in_method.body) ep) ∙ i)

    -- ---- along an edge

    pub gone_on : (w1 : World) (g1 : Frame) (q : ℕ × (ℕ → V)) → Contains (edges a p facts g.position y st.registers) q → g1.position ≡ q.0 → g1.method ≡ g.method → SeesAll a p o facts q.1 w1 g1.registers → Stands a p o facts w1 g1
    gone_on w1 g1 q i ep em h =
        let z = arrives w1 g1.registers q.1 (facts.registers g.method q.0) h (base.closed.flows.onward g.method g.position q here i) in
        record { registers = z.0; reached = ap (λ k. facts.registers k g1.position) em ∙ ap (facts.registers g.method) ep ∙ z.1; hold = z.2 }

    -- what gives no result is behind no position that takes one
    pub top_on : gives_result y ≡ false → (w1 : World) (g1 : Frame) (q : ℕ × (ℕ → V)) → Contains (edges a p facts g.position y st.registers) q → g1.position ≡ q.0 → g1.method ≡ g.method → SeesAll a p o facts q.1 w1 g1.registers → CoversTop a p o facts w1 g1
    top_on gives w1 g1 q i ep em h = record {
      stands = gone_on w1 g1 q i ep em h;
      takes = untaken q.0 g1 em ep (all_in (takes_none t.in_method.body) (onward y g.position) q.0 ((in_place w g t).onward g.position y has gives) (edges_onward a p facts g.position y st.registers q i)) w1;
    }

    -- ---- a thrown object is caught

    pub caught_on : may_throw y ≡ true → (w1 : World) → Grows w w1 → (above : Text → Bool) (v : Value) (q : ℕ) → handler_at above g.position t.in_method.body ≡ Some q → CoversTop a p o facts w1 (record (go g q) { caught = v })
    caught_on throws w1 gr above v q e =
        let inside = subst (λ b. Contains (elim b as (λ b. List ℕ) [ true ↦ handlers_at t.in_method.body g.position | false ↦ [] ]) q) (sym throws) (handler_listed above t.in_method.body g.position q e) in
        let z = arrives w1 g.registers st.registers (facts.registers g.method q) (all_later w w1 st.registers g t gr st.hold) (base.closed.flows.thrown g.method g.position q here inside) in
        record {
          stands = record { registers = z.0; reached = z.1; hold = z.2 };
          takes = untaken q (record (go g q) { caught = v }) refl refl (all_in (takes_none t.in_method.body) (caught t.in_method.body y g.position) q ((in_place w g t).caught g.position y has) inside) w1;
        }

    -- ---- a result that is taken

    pub taken_on : (s : Slot) (to : ℕ) → y ≡ form.MoveResult s to → (k : TakesFrom a p o facts w g) (w1 : World) (g1 : Frame) → g1.position ≡ g.position + 1 → g1.method ≡ g.method
        → SeesAll a p o facts (put_sized a (is_wide_slot a s) to k.value st.registers) w1 g1.registers → CoversTop a p o facts w1 g1
    taken_on s to e k w1 g1 ep em h =
        let taker : At a p facts g.method (k.before + 1) = record {
          body = t.in_method.body;
          form = form.MoveResult s to;
          registers = st.registers;
          has_body = ap (bodies_of p) t.of ∙ t.in_method.has_body;
          has_form = ap (form_at t.in_method.body) (sym k.behind) ∙ has ∙ ap Some e;
          reached = ap (facts.registers g.method) (sym k.behind) ∙ st.reached;
        } in
        let z = arrives w1 g1.registers (put_sized a (is_wide_slot a s) to k.value st.registers) (facts.registers g.method (k.before + 2)) h (base.closed.flows.taken g.method k.before to s k.value k.at taker refl k.from) in
        let two : k.before + 2 ≡ g1.position = omega (arith, ep, k.behind) in
        record {
          stands = record { registers = z.0; reached = ap (λ m. facts.registers m g1.position) em ∙ ap (facts.registers g.method) (sym two) ∙ z.1; hold = z.2 };
          takes = untaken (g.position + 1) g1 em ep (all_in (takes_none t.in_method.body) (onward (form.MoveResult s to) g.position) (g.position + 1)
              ((in_place w g t).onward g.position (form.MoveResult s to) (has ∙ ap Some e) refl) (first_in (g.position + 1) [])) w1;
        }
