-- Frames of a program with inlined calls stand for one frame of the program, or for two: a callee's frame on top of its
-- caller's.
use Rattle.std.proofs.Common.{◌≡◌, ℕ, ◌+◌, ◌<◌, Bool, true, false, true≢false, List, [], ◌∷◌, ◌++◌, length, refl, sym, ap, ◌∙◌, subst, arith}
use Rattle.std.specs.Prelude.{◌||◌, Option, Some, None, slice_get, slice_set, slice_index_or, nat_eq, Contains}
use Rattle.std.specs.Option.{option_map, option_and_then}
use Rattle.lemmas.proofs.Numbers.{same_number}
use Rattle.insn_set.specs.Registers.{in_operand}
use Rattle.dalvik_defs.specs.Names.{Text}
use Rattle.dalvik_defs.specs.Face.{Bodies}
use Rattle.dalvik_defs.specs.State.{World, kind_of}
use Rattle.dalvik_defs.specs.declared.state.Value.{Value}
use Rattle.dalvik_defs.specs.declared.state.Value.TheVariants.{Word}
use Rattle.dalvik_defs.specs.declared.state.Frame.{Frame}
use Rattle.dalvik_defs.specs.Effect.{register, go}
use Rattle.dalvik_defs.specs.Stack.{form_at as form_here, handler_at, lands}
use Rattle.dalvik_defs.specs.Happens.{Setting}
use Rattle.dalvik_defs.specs.declared.names.MethodKey.{MethodKey}
use Rattle.dalvik_defs.specs.declared.forms.Form.{Form}
use Rattle.dalvik_defs.specs.declared.forms.Form.TheVariants as form
use Rattle.dalvik_defs.specs.declared.program.NamedBody.{NamedBody}
use Rattle.pass_defs.specs.Bare.{reads, writes, may_throw, continues}
use Rattle.pass_defs.specs.Inlined.{Callee}
use Rattle.pass_defs.specs.Quiet.{takes_result}
use Rattle.pass_defs.specs.Remade.{remade, retargeted}
use Rattle.pass_defs.specs.Walks.{form_at, onward, successors, IsReached}
use Rattle.program_laws.specs.Results.{gives_result}
use Rattle.program_laws.specs.Alike.{gets_void}
use Rattle.inline_law.specs.Inlining.{Sites, Lives, IsCallee, stays_form, IsCopied, IsInlined}
use Rattle.dalvik_defs.proofs.Blocks.{Block, alone, caught_or}
use Rattle.program_laws.specs.Agree.{Agree}
use Rattle.program_laws.proofs.Agree.{agree_fewer, agree_at, agree_set}
use Rattle.inline_law.proofs.Lists.{index_low, index_high, set_low, set_high, set_length, append_length}
use Rattle.program_laws.proofs.Walks.{walk_on, goes_onward, goes_caught, goes_next, goes_there, handler_caught, no_handler}
use Rattle.inline_law.proofs.Ways.{onward_untaken, caught_untaken, lives_onward, lives_caught}
use Rattle.program_laws.specs.Alike.{is_return, Nothing, Only, Holds, Accepts}
use Rattle.program_laws.proofs.Acts.{own}
use Rattle.program_laws.specs.Standing.{Land, Nowhere, Caught, Standing}

pub form_of : (find : Bodies) (f : Frame) (b : NamedBody) (o : Option Form) → find f.method ≡ Some b → form_at b f.position ≡ o → form_here find f ≡ o
form_of find f b o h e = ap (λ y. option_and_then (λ x. slice_get x.forms f.position) y) h ∙ e

-- a form that takes a result stands where one is taken
taken_at : (b : NamedBody) (n : ℕ) {A : Type 0} → takes_result (form_at b n) ≡ false → takes_result (form_at b n) ≡ true → A
taken_at b n e d = absurd (true≢false (sym d ∙ e))

pub second_own : (n : ℕ) → in_operand true n (n + 1) ≡ true
second_own n = by (nat_eq (n + 1) n) (same_number (n + 1))
  where
    by : (b : Bool) → nat_eq (n + 1) (n + 1) ≡ true → (b || nat_eq (n + 1) (n + 1)) ≡ true
    by true e = refl
    by false e = e

module _ (find other : Bodies) (need : MethodKey → ℕ → ℕ → Type 0) (sites : Sites) where
  -- a frame, and what stands for it in a frame: its registers, behind low ones
  pub record Counterpart (f g : Frame) : Type 0 where
    pub body : NamedBody
    pub rest : NamedBody
    pub has : find f.method ≡ Some body
    pub has_rest : other f.method ≡ Some rest
    pub inlined : IsInlined find need f.method (sites f.method) body rest
    pub reached : IsReached body f.position
    pub lives : Lives body (sites f.method) f.position
    pub method : g.method ≡ f.method
    pub low : List Value
    pub registers : g.registers ≡ low ++ f.registers
    pub long : length low ≡ inlined.shift
    pub exception : g.caught ≡ f.caught

  -- a frame at the new place
  pub record Paired (f g : Frame) : Type 0 where
    pub base : Counterpart f g
    pub position : g.position ≡ base.inlined.at f.position
    pub result : takes_result (form_at base.body f.position) ≡ true → g.result ≡ f.result

  -- a callee's frame on top of its caller's, and a frame in the copy of the callee
  pub record Inside (h f g : Frame) : Type 0 where
    pub base : Counterpart f g
    pub callee : Callee
    pub form : Form
    pub here : form_at base.body f.position ≡ Some form
    pub site : sites f.method f.position ≡ Some callee
    pub is_callee : IsCallee find need base.inlined.shift f.method form callee
    pub copied : IsCopied base.body base.rest base.inlined.at base.inlined.up base.inlined.shift f.position callee
    pub come : IsReached callee.body h.position
    pub method : h.method ≡ callee.key
    pub position : g.position ≡ copied.inner h.position
    pub mine : List Value
    pub pad : List Value
    pub split : base.low ≡ mine ++ pad
    pub wide : length mine ≡ callee.body.registers
    pub agrees : Agree (need callee.key h.position) h.registers mine
    pub result : takes_result (form_at callee.body h.position) ≡ true → g.result ≡ h.result

  pub data Pairs : Block → Block → Type 0 where
    OneFrame : (f g : Frame) → Paired f g → Pairs (alone f) (alone g)
    TwoFrames : (h f g : Frame) → Inside h f g → Pairs (record { top = h; below = f ∷ [] }) (alone g)

  there_form : (f g : Frame) (p : Counterpart f g) (o : Option Form) → form_at p.rest g.position ≡ o → form_here other g ≡ o
  there_form f g p o e = form_of other g p.rest o (ap other p.method ∙ p.has_rest) e

  -- ---- a caller's registers

  pub read_high : (f g : Frame) (p : Counterpart f g) (n i : ℕ) → i ≡ p.inlined.shift + n → register g i ≡ register f n
  read_high f g p n i e = ap (λ l. slice_index_or l i (Word 0)) p.registers ∙ index_high p.low f.registers n i (Word 0) (e ∙ ap (λ l. l + n) (sym p.long))

  pub write_high : (f g : Frame) (p : Counterpart f g) (n i : ℕ) (v : Value) → i ≡ p.inlined.shift + n → slice_set g.registers i v ≡ p.low ++ slice_set f.registers n v
  write_high f g p n i v e = ap (λ l. slice_set l i v) p.registers ∙ set_high p.low f.registers n i v (e ∙ ap (λ l. l + n) (sym p.long))

  up_one : (f g : Frame) (p : Counterpart f g) (n : ℕ) → p.inlined.up n + 1 ≡ p.inlined.shift + (n + 1)
  up_one f g p n = let e = p.inlined.ups n in omega (arith, e)

  pub write_two : (f g : Frame) (p : Counterpart f g) (n : ℕ) (v u : Value) → slice_set (slice_set g.registers (p.inlined.up n) v) (p.inlined.up n + 1) u ≡ p.low ++ slice_set (slice_set f.registers n v) (n + 1) u
  write_two f g p n v u = ap (λ l. slice_set l (p.inlined.up n + 1) u) (write_high f g p n (p.inlined.up n) v (p.inlined.ups n))
      ∙ set_high p.low (slice_set f.registers n v) (n + 1) (p.inlined.up n + 1) u (up_one f g p n ∙ ap (λ l. l + (n + 1)) (sym p.long))

  -- both arrive at a position and its new place
  pub arrives : (f g : Frame) (p : Counterpart f g) (m m' : ℕ) (xs ys : List Value) (v v' u u' : Value) → IsReached p.body m → Lives p.body (sites f.method) m → m' ≡ p.inlined.at m
      → ys ≡ p.low ++ xs → (takes_result (form_at p.body m) ≡ true → v' ≡ v) → u' ≡ u
      → Paired (record { method = f.method; position = m; registers = xs; result = v; caught = u }) (record { method = g.method; position = m'; registers = ys; result = v'; caught = u' })
  arrives f g p m m' xs ys v v' u u' i l e r t k = record {
    base = record {
      body = p.body;
      rest = p.rest;
      has = p.has;
      has_rest = p.has_rest;
      inlined = p.inlined;
      reached = i;
      lives = l;
      method = p.method;
      low = p.low;
      registers = r;
      long = p.long;
      exception = k;
    };
    position = e;
    result = t;
  }

  module _ (f g : Frame) (p : Paired f g) (x : Form) (here : form_at p.base.body f.position ≡ Some x) (none : sites f.method f.position ≡ None) (after : p.base.inlined.at (f.position + 1) ≡ p.base.inlined.at f.position + 1) where
    abbrev G : Frame → Frame → Type 0
    G f' g' = Pairs (alone f') (alone g')

    outer_goes : (m m' : ℕ) (xs ys : List Value) (v v' : Value) → Contains (onward x f.position) m → m' ≡ p.base.inlined.at m → ys ≡ p.base.low ++ xs → (takes_result (form_at p.base.body m) ≡ true → v' ≡ v)
        → G (record { method = f.method; position = m; registers = xs; result = v; caught = f.caught }) (record { method = g.method; position = m'; registers = ys; result = v'; caught = g.caught })
    outer_goes m m' xs ys v v' i e r t = OneFrame _ _ (arrives f g p.base m m' xs ys v v' f.caught g.caught (walk_on (successors p.base.body) 0 f.position m p.base.reached (goes_onward p.base.body f.position x here m i))
        (lives_onward p.base.body (sites f.method) p.base.inlined.in_place f.position x here none m i) e r t p.base.exception)

    next_place : g.position + 1 ≡ p.base.inlined.at (f.position + 1)
    next_place = ap (λ n. n + 1) p.position ∙ sym after

    plain_result : (m : ℕ) → Contains (onward x f.position) m → gives_result x ≡ false → takes_result (form_at p.base.body m) ≡ true → g.result ≡ f.result
    plain_result m i e t = taken_at p.base.body m (onward_untaken p.base.body p.base.inlined.in_place f.position x here e m i) t

    pub outer_accepts : Accepts x p.base.inlined.up p.base.inlined.at f g G
    outer_accepts = record {
      none = λ c o. outer_goes (f.position + 1) (g.position + 1) f.registers g.registers f.result g.result (goes_next x f.position c.0) next_place p.base.registers (plain_result (f.position + 1) (goes_next x f.position c.0) c.1);
      one = λ c to v o. outer_goes (f.position + 1) (g.position + 1) (slice_set f.registers to v) (slice_set g.registers (p.base.inlined.up to) v) f.result g.result (goes_next x f.position c.0) next_place
          (write_high f g p.base to (p.base.inlined.up to) v (p.base.inlined.ups to)) (plain_result (f.position + 1) (goes_next x f.position c.0) c.1);
      two = λ c to v u o. outer_goes (f.position + 1) (g.position + 1) (slice_set (slice_set f.registers to v) (to + 1) u) (slice_set (slice_set g.registers (p.base.inlined.up to) v) (p.base.inlined.up to + 1) u) f.result g.result
          (goes_next x f.position c.0) next_place (write_two f g p.base to v u) (plain_result (f.position + 1) (goes_next x f.position c.0) c.1);
      gives = λ c o v. outer_goes (f.position + 1) (g.position + 1) f.registers g.registers v v (goes_next x f.position c) next_place p.base.registers (λ t. refl);
      jumps = λ m i o e. outer_goes m (p.base.inlined.at m) f.registers g.registers f.result g.result (goes_there x f.position m i) refl p.base.registers (plain_result m (goes_there x f.position m i) e);
    }

    outer_holds : Holds x p.base.inlined.up f g
    outer_holds = record {
      reads = λ n e. read_high f g p.base n (p.base.inlined.up n) (p.base.inlined.ups n);
      second = λ to from e. read_high f g p.base (from + 1) (p.base.inlined.up from + 1) (up_one f g p.base from);
      result = λ s to e. p.result (ap takes_result (here ∙ ap Some e));
      caught = λ to e. p.base.exception;
    }

  -- ---- handlers of a caller

  landing : (s : Setting) (w : World) (v : Value) (f g : Frame) (p : Counterpart f g) (x : Form) → form_at p.body f.position ≡ Some x → may_throw x ≡ true
      → ((above : Text → Bool) → handler_at above g.position p.rest ≡ option_map p.inlined.at (handler_at above f.position p.body))
      → Land s find other Pairs (caught_or [] (lands s.face find w f v) None) (caught_or [] (lands s.face other w g v) None)
  landing s w v f g p x here t hs =
      let above : Text → Bool = s.face.under (kind_of w v) in
      let e : lands s.face find w f v ≡ option_map (λ m. record (go f m) { caught = v }) (handler_at above f.position p.body) =
      ap (λ b. option_map (λ m. record (go f m) { caught = v }) (option_and_then (handler_at above f.position) b)) p.has in
      let d : lands s.face other w g v ≡ option_map (λ m. record (go g m) { caught = v }) (option_map p.inlined.at (handler_at above f.position p.body)) =
      ap (λ b. option_map (λ m. record (go g m) { caught = v }) (option_and_then (handler_at above g.position) b)) (ap other p.method ∙ p.has_rest)
      ∙ ap (option_map (λ m. record (go g m) { caught = v })) (hs above) in
      subst (λ y. Land s find other Pairs (caught_or [] y None) (caught_or [] (lands s.face other w g v) None)) (sym e)
      (subst (λ y. Land s find other Pairs (caught_or [] (option_map (λ m. record (go f m) { caught = v }) (handler_at above f.position p.body)) None) (caught_or [] y None)) (sym d)
      (by above (handler_at above f.position p.body) refl))
    where
      by : (above : Text → Bool) (o : Option ℕ) → handler_at above f.position p.body ≡ o
          → Land s find other Pairs (caught_or [] (option_map (λ m. record (go f m) { caught = v }) o) None) (caught_or [] (option_map (λ m. record (go g m) { caught = v }) (option_map p.inlined.at o)) None)
      by above None e = Nowhere
      by above (Some m) e = let i = handler_caught above p.body f.position x m t e in
          Caught (alone (record (go f m) { caught = v })) (alone (record (go g (p.inlined.at m)) { caught = v }))
          (OneFrame _ _ (arrives f g p m (p.inlined.at m) f.registers g.registers f.result g.result v v (walk_on (successors p.body) 0 f.position m p.reached (goes_caught p.body f.position x here m i))
          (lives_caught p.body (sites f.method) p.inlined.in_place f.position x here m i) refl p.registers
          (λ t. taken_at p.body m (caught_untaken p.body p.inlined.in_place f.position x here m i) t) refl))

  pub outer_stands : (s : Setting) (f g : Frame) (p : Paired f g) (x : Form) → form_at p.base.body f.position ≡ Some x → sites f.method f.position ≡ None
      → form_at p.base.rest (p.base.inlined.at f.position) ≡ Some (remade p.base.inlined.up p.base.inlined.up p.base.inlined.at x) → p.base.inlined.at (f.position + 1) ≡ p.base.inlined.at f.position + 1
      → (may_throw x ≡ true → (above : Text → Bool) → handler_at above (p.base.inlined.at f.position) p.base.rest ≡ option_map p.base.inlined.at (handler_at above f.position p.base.body))
      → Standing s find other Pairs (alone f) (alone g)
  outer_stands s f g p x here none there after hs = record {
    pair = OneFrame f g p;
    form = x;
    from = p.base.inlined.up;
    into = p.base.inlined.up;
    to = p.base.inlined.at;
    here = form_of find f p.base.body (Some x) p.base.has here;
    there = there_form f g p.base _ (ap (form_at p.base.rest) p.position ∙ there);
    class = ap (λ k. k.class) p.base.method;
    holds = outer_holds f g p x here none after;
    accepts = outer_accepts f g p x here none after;
    voids = λ e. outer_goes f g p x here none after (f.position + 1) (g.position + 1) f.registers g.registers (Word 0) (Word 0) (goes_next x f.position (void_goes x e)) (next_place f g p x here none after) p.base.registers (λ t. refl);
    landed = λ t u v. landing s u v f g p.base x here t (λ above. ap (λ n. handler_at above n p.base.rest) p.position ∙ hs t above);
    ended = λ e. (refl, (refl, ap (λ k. k.signature.result) p.base.method));
  }
    where
      void_goes : (x : Form) → gets_void x ≡ true → continues x ≡ true
      void_goes (form.InstanceGet i to on k) e = refl
      void_goes (form.StaticGet i to k) e = refl
      void_goes x e = absurd (true≢false (sym e))

  -- ---- a callee's registers

  module _ (h f g : Frame) (p : Inside h f g) where
    inside_registers : g.registers ≡ (p.mine ++ p.pad) ++ f.registers
    inside_registers = p.base.registers ∙ ap (λ l. l ++ f.registers) p.split

    -- a register below those of the callee is below all of them
    below_all : (n : ℕ) → n < length p.mine → n < length (p.mine ++ p.pad)
    below_all n l = let e = append_length p.mine p.pad in omega (arith, e, l)

    read_mine : (n : ℕ) → n < length p.mine → register g n ≡ slice_index_or p.mine n (Word 0)
    read_mine n l = ap (λ l. slice_index_or l n (Word 0)) inside_registers ∙ index_low (p.mine ++ p.pad) f.registers n (Word 0) (below_all n l) ∙ index_low p.mine p.pad n (Word 0) l

    write_mine : (zs mine : List Value) (n : ℕ) (v : Value) → length mine ≡ length p.mine → zs ≡ (mine ++ p.pad) ++ f.registers → n < length p.mine → slice_set zs n v ≡ (slice_set mine n v ++ p.pad) ++ f.registers
    write_mine zs mine n v k e l = let a = append_length mine p.pad in
        ap (λ l. slice_set l n v) e ∙ set_low (mine ++ p.pad) f.registers n v (omega (arith, a, k, l)) ∙ ap (λ l. l ++ f.registers) (set_low mine p.pad n v (omega (arith, k, l)))

    pub read_inside : (x : Form) (n : ℕ) → form_at p.callee.body h.position ≡ Some x → reads x n ≡ true → register g n ≡ register h n
    read_inside x n here e = let l : n < length p.mine = let a = p.is_callee.reads_room h.position x n here e in let b = p.wide in omega (arith, a, b) in
        read_mine n l ∙ sym (agree_at (need p.callee.key h.position) h.registers p.mine n (Word 0) (p.is_callee.is_need.reads h.position x n here e) p.agrees)

    -- both arrive at a position of the callee and its place in the copy
    inside_arrives : (m m' : ℕ) (hs ys mine : List Value) (v v' : Value) → IsReached p.callee.body m → m' ≡ p.copied.inner m → ys ≡ (mine ++ p.pad) ++ f.registers → length mine ≡ length p.mine
        → Agree (need p.callee.key m) hs mine → (takes_result (form_at p.callee.body m) ≡ true → v' ≡ v)
        → Inside (record { method = h.method; position = m; registers = hs; result = v; caught = h.caught }) f (record { method = g.method; position = m'; registers = ys; result = v'; caught = g.caught })
    inside_arrives m m' hs ys mine v v' i e r l a t = record {
      base = record {
        body = p.base.body;
        rest = p.base.rest;
        has = p.base.has;
        has_rest = p.base.has_rest;
        inlined = p.base.inlined;
        reached = p.base.reached;
        lives = p.base.lives;
        method = p.base.method;
        low = mine ++ p.pad;
        registers = r;
        long = append_length mine p.pad ∙ ap (λ n. n + length p.pad) l ∙ sym (append_length p.mine p.pad) ∙ ap (λ l. length l) (sym p.split) ∙ p.base.long;
        exception = p.base.exception;
      };
      callee = p.callee;
      form = p.form;
      here = p.here;
      site = p.site;
      is_callee = p.is_callee;
      copied = p.copied;
      come = i;
      method = p.method;
      position = e;
      mine = mine;
      pad = p.pad;
      split = refl;
      wide = l ∙ p.wide;
      agrees = a;
      result = t;
    }

    module _ (x : Form) (here : form_at p.callee.body h.position ≡ Some x) (after : p.copied.inner (h.position + 1) ≡ p.copied.inner h.position + 1) where
      abbrev K : Frame → Frame → Type 0
      K h' g' = Pairs (record { top = h'; below = f ∷ [] }) (alone g')

      inner_goes : (m m' : ℕ) (hs ys mine : List Value) (v v' : Value) → Contains (onward x h.position) m → m' ≡ p.copied.inner m → ys ≡ (mine ++ p.pad) ++ f.registers → length mine ≡ length p.mine
          → Agree (need p.callee.key m) hs mine → (takes_result (form_at p.callee.body m) ≡ true → v' ≡ v)
          → K (record { method = h.method; position = m; registers = hs; result = v; caught = h.caught }) (record { method = g.method; position = m'; registers = ys; result = v'; caught = g.caught })
      inner_goes m m' hs ys mine v v' i e r l a t = TwoFrames _ _ _ (inside_arrives m m' hs ys mine v v' (walk_on (successors p.callee.body) 0 h.position m p.come (goes_onward p.callee.body h.position x here m i)) e r l a t)

      inner_place : g.position + 1 ≡ p.copied.inner (h.position + 1)
      inner_place = ap (λ n. n + 1) p.position ∙ sym after

      inner_result : (m : ℕ) → Contains (onward x h.position) m → gives_result x ≡ false → takes_result (form_at p.callee.body m) ≡ true → g.result ≡ h.result
      inner_result m i e t = taken_at p.callee.body m (onward_untaken p.callee.body p.is_callee.in_place h.position x here e m i) t

      needed : (m : ℕ) → Contains (onward x h.position) m → (r : ℕ) → need p.callee.key m r → writes x r ≡ false → need p.callee.key h.position r
      needed m i r k e = p.is_callee.is_need.onward h.position m x r here i k e

      unwritten : (m : ℕ) → Contains (onward x h.position) m → Nothing x → Agree (need p.callee.key m) h.registers p.mine
      unwritten m i o = agree_fewer (need p.callee.key h.position) (need p.callee.key m) (λ r k. needed m i r k (o r)) h.registers p.mine p.agrees

      has_room : (n : ℕ) → writes x n ≡ true → n < length p.mine
      has_room n e = let a = p.is_callee.writes_room h.position x n here e in let b = p.wide in omega (arith, a, b)

      first_room : (wide : Bool) (to : ℕ) → Only x wide to → to < length p.mine
      first_room wide to o = has_room to (o to ∙ own wide to)

      second_room : (to : ℕ) → Only x true to → to + 1 < length p.mine
      second_room to o = has_room (to + 1) (o (to + 1) ∙ second_own to)

      writes_one : continues x ≡ true → (to : ℕ) → Only x false to → (r : ℕ) → need p.callee.key (h.position + 1) r → nat_eq r to ≡ false → need p.callee.key h.position r
      writes_one c to o r k e = needed (h.position + 1) (goes_next x h.position c) r k (o r ∙ e)

      writes_two : continues x ≡ true → (to : ℕ) → Only x true to → (r : ℕ) → need p.callee.key (h.position + 1) r → nat_eq r (to + 1) ≡ false → nat_eq r to ≡ false → need p.callee.key h.position r
      writes_two c to o r k e d = needed (h.position + 1) (goes_next x h.position c) r k (o r ∙ ap (λ b. b || nat_eq r (to + 1)) d ∙ e)

      pub inner_accepts : Accepts x (λ r. r) p.copied.inner h g K
      inner_accepts = record {
        none = λ c o. inner_goes (h.position + 1) (g.position + 1) h.registers g.registers p.mine h.result g.result (goes_next x h.position c.0) inner_place inside_registers refl
            (unwritten (h.position + 1) (goes_next x h.position c.0) o) (inner_result (h.position + 1) (goes_next x h.position c.0) c.1);
        one = λ c to v o. inner_goes (h.position + 1) (g.position + 1) (slice_set h.registers to v) (slice_set g.registers to v) (slice_set p.mine to v) h.result g.result (goes_next x h.position c.0) inner_place
            (write_mine g.registers p.mine to v refl inside_registers (first_room false to o)) (set_length p.mine to v)
            (agree_set (need p.callee.key h.position) (need p.callee.key (h.position + 1)) h.registers p.mine to v (writes_one c.0 to o) p.agrees) (inner_result (h.position + 1) (goes_next x h.position c.0) c.1);
        two = λ c to v u o. inner_goes (h.position + 1) (g.position + 1) (slice_set (slice_set h.registers to v) (to + 1) u) (slice_set (slice_set g.registers to v) (to + 1) u) (slice_set (slice_set p.mine to v) (to + 1) u) h.result g.result
            (goes_next x h.position c.0) inner_place
            (write_mine (slice_set g.registers to v) (slice_set p.mine to v) (to + 1) u (set_length p.mine to v) (write_mine g.registers p.mine to v refl inside_registers (first_room true to o)) (second_room to o))
            (set_length (slice_set p.mine to v) (to + 1) u ∙ set_length p.mine to v)
            (agree_set (λ r. need p.callee.key (h.position + 1) r × (nat_eq r (to + 1) ≡ false)) (need p.callee.key (h.position + 1)) (slice_set h.registers to v) (slice_set p.mine to v) (to + 1) u (λ r k e. (k, e))
            (agree_set (need p.callee.key h.position) (λ r. need p.callee.key (h.position + 1) r × (nat_eq r (to + 1) ≡ false)) h.registers p.mine to v (λ r k e. writes_two c.0 to o r k.0 k.1 e) p.agrees))
            (inner_result (h.position + 1) (goes_next x h.position c.0) c.1);
        gives = λ c o v. inner_goes (h.position + 1) (g.position + 1) h.registers g.registers p.mine v v (goes_next x h.position c) inner_place inside_registers refl (unwritten (h.position + 1) (goes_next x h.position c) o) (λ t. refl);
        jumps = λ m i o e. inner_goes m (p.copied.inner m) h.registers g.registers p.mine h.result g.result (goes_there x h.position m i) refl inside_registers refl (unwritten m (goes_there x h.position m i) o)
            (inner_result m (goes_there x h.position m i) e);
      }

      inner_holds : stays_form x ≡ true → Holds x (λ r. r) h g
      inner_holds st = record {
        reads = λ n e. read_inside x n here e;
        second = λ to from e. read_inside x (from + 1) here (ap (λ y. reads y (from + 1)) e ∙ second_own from);
        result = λ s to e. p.result (ap takes_result (here ∙ ap Some e));
        caught = λ to e. absurd (true≢false (sym st ∙ ap stays_form e));
      }

      pub inner_stands : (s : Setting) → stays_form x ≡ true → form_at p.base.rest (p.copied.inner h.position) ≡ Some (retargeted p.copied.inner x) → Standing s find other Pairs (record { top = h; below = f ∷ [] }) (alone g)
      inner_stands s st there = record {
        pair = TwoFrames h f g p;
        form = x;
        from = λ r. r;
        into = λ r. r;
        to = p.copied.inner;
        here = form_of find h p.callee.body (Some x) (ap find p.method ∙ p.is_callee.found) here;
        there = there_form f g p.base _ (ap (form_at p.base.rest) p.position ∙ there);
        class = ap (λ k. k.class) p.base.method ∙ sym p.is_callee.class ∙ ap (λ k. k.class) (sym p.method);
        holds = inner_holds st;
        accepts = inner_accepts;
        voids = λ e. inner_goes (h.position + 1) (g.position + 1) h.registers g.registers p.mine (Word 0) (Word 0) (goes_next x h.position (void_on x e)) inner_place inside_registers refl
            (agree_fewer (need p.callee.key h.position) (need p.callee.key (h.position + 1)) (λ r k. p.is_callee.is_need.voids h.position x r here e k) h.registers p.mine p.agrees) (λ t. refl);
        landed = λ t u v. subst (λ o. Land s find other Pairs (caught_or (f ∷ []) o (caught_or [] (lands s.face find u f v) None)) (caught_or [] (lands s.face other u g v) None)) (sym (unhandled s u v))
            (landing s u v f g p.base p.form p.here (ap may_throw p.is_callee.call) (λ above. ap (λ n. handler_at above n p.base.rest) p.position ∙ p.copied.handlers h.position x here t above));
        ended = λ e. absurd (true≢false (sym st ∙ ended_not x e));
      }
        where
          void_on : (x : Form) → gets_void x ≡ true → continues x ≡ true
          void_on (form.InstanceGet i to on k) e = refl
          void_on (form.StaticGet i to k) e = refl
          void_on x e = absurd (true≢false (sym e))

          ended_not : (x : Form) → is_return x ≡ true → stays_form x ≡ false
          ended_not form.ReturnVoid e = refl
          ended_not (form.Return s from) e = refl
          ended_not x e = absurd (true≢false (sym e))

          unhandled : (s : Setting) (u : World) (v : Value) → lands s.face find u h v ≡ None
          unhandled s u v = ap (λ b. option_map (λ m. record (go h m) { caught = v }) (option_and_then (handler_at (s.face.under (kind_of u v)) h.position) b)) (ap find p.method ∙ p.is_callee.found)
              ∙ ap (option_map (λ m. record (go h m) { caught = v })) (no_handler (s.face.under (kind_of u v)) p.callee.body h.position p.is_callee.unguarded)
