-- The law of inlining: a program shows the same where bodies of callees stand in place of calls.
use Rattle.std.proofs.Common.{◌≡◌, ℕ, zero, suc, ◌+◌, ◌<◌, ◌≤◌, ◌-◌, Bool, true, false, true≢false, List, [], ◌∷◌, ◌++◌, length, refl, sym, ap, ◌∙◌, subst, arith}
use Rattle.std.specs.Prelude.{Option, Some, None, slice_set, slice_index_or, if◌then◌else◌, replicate, map, drop, nat_eq, Contains}
use Rattle.lemmas.proofs.Lists.{contains_here}
use Rattle.lemmas.proofs.Numbers.{same_number}
use Rattle.lemmas.proofs.Options.{none_some, some_same}
use Rattle.insn_set.specs.Widths.{is_wide_slot}
use Rattle.insn_set.specs.declared.ops.Slot.{Slot}
use Rattle.insn_set.specs.declared.ops.Slot.TheVariants as slot
use Rattle.dalvik_defs.specs.Names.{Text, is_reference}
use Rattle.dalvik_defs.specs.Face.{Bodies, face_of, bodies_of}
use Rattle.dalvik_defs.specs.Outer.{Outer}
use Rattle.dalvik_defs.specs.Quiet.{calm_opening}
use Rattle.dalvik_defs.specs.Shown.{Fit, SameShown}
use Rattle.dalvik_defs.specs.State.{World, Classes, State, On, Ended, word_of}
use Rattle.dalvik_defs.specs.declared.state.Value.{Value}
use Rattle.dalvik_defs.specs.declared.state.Value.TheVariants.{Word, Low, High}
use Rattle.dalvik_defs.specs.declared.state.Frame.{Frame}
use Rattle.dalvik_defs.specs.declared.state.Waiting.{Waiting}
use Rattle.dalvik_defs.specs.declared.state.Waiting.TheVariants.{Method}
use Rattle.dalvik_defs.specs.Effect.{register, write_slot, next, go}
use Rattle.dalvik_defs.specs.ActPlain.{move_slot}
use Rattle.dalvik_defs.specs.Outcome.{Stays, Enters, Ends, need_of, outcome}
use Rattle.dalvik_defs.specs.Stack.{entry_frame, enters_body, receives, back, form_at as form_here}
use Rattle.dalvik_defs.specs.Happens.{Setting, happens, effect_of}
use Rattle.dalvik_defs.specs.Step.{step, events_of, setting_of}
use Rattle.dalvik_defs.specs.declared.names.MethodKey.{MethodKey}
use Rattle.dalvik_defs.specs.declared.forms.Form.{Form}
use Rattle.dalvik_defs.specs.declared.forms.Form.TheVariants as form
use Rattle.dalvik_defs.specs.declared.script.Move.{Move}
use Rattle.dalvik_defs.specs.declared.program.NamedBody.{NamedBody}
use Rattle.dalvik_defs.specs.declared.program.NamedProgram.{NamedProgram}
use Rattle.dalvik_defs.specs.declared.tables.Framework.{Framework}
use Rattle.dalvik_defs.specs.declared.tables.Floats.{Floats}
use Rattle.dalvik_defs.proofs.Calm.{IsCalm}
use Rattle.dalvik_defs.proofs.Frames.{now}
use Rattle.pass_defs.specs.Inlined.{Callee, Taken, passed_types, moves_to, moves_of}
use Rattle.pass_defs.specs.Quiet.{takes_result}
use Rattle.pass_defs.specs.Walks.{form_at, onward, successors, Stays as Arrives, IsReached}
use Rattle.inline_law.specs.Inlining.{Sites, Behind, Untaken, TakenBy, Passes, PassesNone, PassesOne, PassesTwo, IsCallee, Stand, Copied, Kept, Ended, Dropped, Handed, IsCopied, Went, Past as WasPast, Stood, Replaced, IsInlined, AreInlined, Neither as HasNeither, Both as HasBoth}
use Rattle.dalvik_defs.proofs.Blocks.{Block, alone, with_top, under, stacked, Glides}
use Rattle.inline_law.proofs.Lists.{index_high, set_low, set_length, append_length, cut, overwritten, overwritten_length, agree_entry}
use Rattle.program_laws.proofs.Walks.{walk_on, goes_onward}
use Rattle.inline_law.proofs.Ways.{onward_untaken}
use Rattle.program_laws.proofs.Acts.{own}
use Rattle.program_laws.specs.Standing.{Goes, Stands, Past, Leaps, Later, Entries, Neither, Both, GoAlike}
use Rattle.program_laws.proofs.Blocks.{block_none, block_on, step_stays}
use Rattle.program_laws.proofs.Standing.{standing_shown}
use Rattle.insn_set.specs.Registers.{in_operand}
use Rattle.inline_law.proofs.Pairs.{second_own, Paired, Inside, Pairs, OneFrame, TwoFrames, form_of, arrives, write_high, write_two, read_inside, outer_stands, inner_stands}

pub two_on : (n : ℕ) → n + 1 + 1 ≡ n + 2
two_on n = omega arith

-- ---- single steps

module _ (s : Setting) (find : Bodies) where
  step_enters : (w : World) (c : Classes) (f : Frame) (k : MethodKey) (vs : List Value) (b : NamedBody) → now s find w c f ≡ Enters k vs → find k ≡ Some b → length vs ≡ b.ins
      → Glides s find w c (alone f) 1 w c (record { top = entry_frame k vs b; below = f ∷ [] })
  step_enters w c f k vs b h e l = record {
    ends = λ rest script. ap (λ o. (happens s find o w c f rest script).0) h ∙ ap (λ o. enters_body o w c k vs (Method f ∷ rest) script) e
        ∙ ap (λ q. elim q as (λ q. State) [ true ↦ On w c (Method (entry_frame k vs b) ∷ Method f ∷ rest) script | false ↦ Ended ]) (subst (λ m. nat_eq (length vs) m ≡ true) l (same_number (length vs)));
    silent = λ rest script. ap (λ o. events_of (happens s find o w c f rest script).1 ++ []) h;
  }

  step_ends : (w : World) (c : Classes) (h f : Frame) (v : Option Value) → now s find w c h ≡ Ends v → Glides s find w c (record { top = h; below = f ∷ [] }) 1 w c (alone (back find f v))
  step_ends w c h f v e = record {
    ends = λ rest script. ap (λ o. (happens s find o w c h (Method f ∷ rest) script).0) e;
    silent = λ rest script. ap (λ o. events_of (happens s find o w c h (Method f ∷ rest) script).1 ++ []) e;
  }

  now_by : (w : World) (c : Classes) (f : Frame) (o : Option Form) → form_here find f ≡ o → now s find w c f ≡ outcome s.face (need_of s.face c) (effect_of s o w f) w f
  now_by w c f o e = ap (λ y. outcome s.face (need_of s.face c) (effect_of s y w f) w f) e

  step_goto : (w : World) (c : Classes) (g : Frame) (m : ℕ) → form_here find g ≡ Some (form.Goto m) → Glides s find w c (alone g) 1 w c (alone (go g m))
  step_goto w c g m e = step_stays s find w c (alone g) w (go g m) (now_by w c g (Some (form.Goto m)) e)

  step_move : (w : World) (c : Classes) (g : Frame) (t : Slot) (to from : ℕ) → form_here find g ≡ Some (form.Move t to from) → Glides s find w c (alone g) 1 w c (alone (next (move_slot t g to from)))
  step_move w c g t to from e = step_stays s find w c (alone g) w (next (move_slot t g to from)) (now_by w c g (Some (form.Move t to from)) e)

-- ---- the moves of the arguments

module _ (s : Setting) (other : Bodies) (w : World) (c : Classes) (k : MethodKey) (rest : NamedBody) (has : other k ≡ Some rest) (v u : Value) (pad xs : List Value) where
  abbrev frame : ℕ → List Value → Frame
  frame n l = record { method = k; position = n; registers = l; result = v; caught = u }

  abbrev behind : List Value → List Value
  behind mine = (mine ++ pad) ++ xs

  abbrev value : ℕ → Value
  value r = slice_index_or xs r (Word 0)

  abbrev Moving : ℕ → List Value → List Form → ℕ → List Value → Type 0
  Moving n mine fs m mine' = Stand rest n fs → Glides s other w c (alone (frame n (behind mine))) (length fs) w c (alone (frame m (behind mine')))

  reads_value : (mine : List Value) (r i shift : ℕ) → length mine + length pad ≡ shift → i ≡ shift + r → slice_index_or (behind mine) i (Word 0) ≡ value r
  reads_value mine r i shift l e = let a = append_length mine pad in index_high (mine ++ pad) xs r i (Word 0) (omega (arith, a, l, e))

  writes_value : (mine : List Value) (to : ℕ) (x : Value) → to < length mine → slice_set (behind mine) to x ≡ behind (slice_set mine to x)
  writes_value mine to x l = let a = append_length mine pad in set_low (mine ++ pad) xs to x (omega (arith, a, l)) ∙ ap (λ z. z ++ xs) (set_low mine pad to x l)

  here_by : (n : ℕ) (l : List Value) (f : Form) → form_at rest n ≡ Some f → form_here other (frame n l) ≡ Some f
  here_by n l f e = form_of other (frame n l) rest (Some f) has e

  -- a move of one register, and more moves
  one_move : (t : Bool) (n to r shift m : ℕ) (mine mine' : List Value) (fs : List Form) → to < length mine → length mine + length pad ≡ shift
      → Moving (n + 1) (slice_set mine to (value r)) fs m mine' → Moving n mine (form.Move (if t then slot.Object else slot.Word) to (r + shift) ∷ fs) m mine'
  one_move t n to r shift m mine mine' fs room long more st =
      let e : slice_index_or (behind mine) (r + shift) (Word 0) ≡ value r = reads_value mine r (r + shift) shift long (omega arith) in
      let d : slice_set (behind mine) to (slice_index_or (behind mine) (r + shift) (Word 0)) ≡ behind (slice_set mine to (value r)) = ap (λ z. slice_set (behind mine) to z) e ∙ writes_value mine to (value r) room in
      block_on s other w c (alone (frame n (behind mine))) 1 w c (alone (frame (n + 1) (behind (slice_set mine to (value r))))) (length fs) w c (alone (frame m (behind mine')))
      (subst (λ l. Glides s other w c (alone (frame n (behind mine))) 1 w c (alone (frame (n + 1) l))) d (by t st.0)) (more st.1)
    where
      by : (t : Bool) → form_at rest n ≡ Some (form.Move (if t then slot.Object else slot.Word) to (r + shift))
          → Glides s other w c (alone (frame n (behind mine))) 1 w c (alone (frame (n + 1) (slice_set (behind mine) to (slice_index_or (behind mine) (r + shift) (Word 0)))))
      by true e = step_move s other w c (frame n (behind mine)) slot.Object to (r + shift) (here_by n (behind mine) _ e)
      by false e = step_move s other w c (frame n (behind mine)) slot.Word to (r + shift) (here_by n (behind mine) _ e)

  two_move : (n to r shift m : ℕ) (mine mine' : List Value) (fs : List Form) → to + 1 < length mine → length mine + length pad ≡ shift
      → Moving (n + 1) (slice_set (slice_set mine to (value r)) (to + 1) (value (r + 1))) fs m mine' → Moving n mine (form.Move slot.Wide to (r + shift) ∷ fs) m mine'
  two_move n to r shift m mine mine' fs room long more st =
      let e : slice_index_or (behind mine) (r + shift) (Word 0) ≡ value r = reads_value mine r (r + shift) shift long (omega arith) in
      let e' : slice_index_or (behind mine) (r + shift + 1) (Word 0) ≡ value (r + 1) = reads_value mine (r + 1) (r + shift + 1) shift long (omega arith) in
      let d : slice_set (behind mine) to (slice_index_or (behind mine) (r + shift) (Word 0)) ≡ behind (slice_set mine to (value r)) = ap (λ z. slice_set (behind mine) to z) e ∙ writes_value mine to (value r) (omega (arith, room)) in
      let k = set_length mine to (value r) in
      let d' : slice_set (slice_set (behind mine) to (slice_index_or (behind mine) (r + shift) (Word 0))) (to + 1) (slice_index_or (behind mine) (r + shift + 1) (Word 0))
      ≡ behind (slice_set (slice_set mine to (value r)) (to + 1) (value (r + 1))) =
      ap (λ z. slice_set z (to + 1) (slice_index_or (behind mine) (r + shift + 1) (Word 0))) d ∙ ap (λ z. slice_set (behind (slice_set mine to (value r))) (to + 1) z) e'
      ∙ writes_value (slice_set mine to (value r)) (to + 1) (value (r + 1)) (omega (arith, room, k)) in
      block_on s other w c (alone (frame n (behind mine))) 1 w c (alone (frame (n + 1) (behind (slice_set (slice_set mine to (value r)) (to + 1) (value (r + 1)))))) (length fs) w c (alone (frame m (behind mine')))
      (subst (λ l. Glides s other w c (alone (frame n (behind mine))) 1 w c (alone (frame (n + 1) l))) d' (step_move s other w c (frame n (behind mine)) slot.Wide to (r + shift) (here_by n (behind mine) _ st.0)))
      (more st.1)

  abbrev tail_moves : ℕ → List Text → ℕ → List ℕ → Bool → List Form
  tail_moves shift ts to rs b = elim b [ true ↦ moves_to shift ts (to + 2) (drop 1 rs) | false ↦ moves_to shift ts (to + 1) rs ]

  abbrev first_slot : Text → Bool → Slot
  first_slot t b = if b then slot.Wide else if is_reference t then slot.Object else slot.Word

  moved : (shift : ℕ) (ts : List Text) (rs : List ℕ) → Passes ts rs → (n to m : ℕ) (mine : List Value) → to + length rs ≤ length mine → length mine + length pad ≡ shift
      → m ≡ n + length (moves_to shift ts to rs) → Moving n mine (moves_to shift ts to rs) m (overwritten mine to (map value rs))
  moved shift _ _ PassesNone n to m mine room long e st = let q : m ≡ n = omega (arith, e) in
      subst (λ z. Glides s other w c (alone (frame n (behind mine))) 0 w c (alone (frame z (behind mine)))) (sym q) (block_none s other w c (alone (frame n (behind mine))))
  moved shift _ _ (PassesOne t ts r rs narrow ps) n to m mine room long e st =
      let k = set_length mine to (value r) in
      let goal : Bool → Type 0 = λ b. m ≡ n + length (form.Move (first_slot t b) to (r + shift) ∷ tail_moves shift ts to rs b)
      → Moving n mine (form.Move (first_slot t b) to (r + shift) ∷ tail_moves shift ts to rs b) m (overwritten mine to (map value (r ∷ rs))) in
      subst goal (sym narrow) (λ e. one_move (is_reference t) n to r shift m mine (overwritten mine to (map value (r ∷ rs))) (moves_to shift ts (to + 1) rs) (omega (arith, room)) long
      (moved shift ts rs ps (n + 1) (to + 1) m (slice_set mine to (value r)) (omega (arith, room, k)) (omega (arith, k, long)) (omega (arith, e)))) e st
  moved shift _ _ (PassesTwo t ts r rs wide ps) n to m mine room long e st =
      let k = set_length mine to (value r) in
      let k' = set_length (slice_set mine to (value r)) (to + 1) (value (r + 1)) in
      let two : List Value = slice_set (slice_set mine to (value r)) (to + 1) (value (r + 1)) in
      let goal : Bool → Type 0 = λ b. m ≡ n + length (form.Move (first_slot t b) to (r + shift) ∷ tail_moves shift ts to ((r + 1) ∷ rs) b)
      → Moving n mine (form.Move (first_slot t b) to (r + shift) ∷ tail_moves shift ts to ((r + 1) ∷ rs) b) m (overwritten mine to (map value (r ∷ (r + 1) ∷ rs))) in
      subst goal (sym wide) (λ e. two_move n to r shift m mine (overwritten mine to (map value (r ∷ (r + 1) ∷ rs))) (moves_to shift ts (to + 2) rs) (omega (arith, room)) long
      (subst (λ z. Moving (n + 1) two (moves_to shift ts (to + 2) rs) m (overwritten two z (map value rs))) (sym (two_on to))
      (moved shift ts rs ps (n + 1) (to + 2) m two (omega (arith, room, k, k')) (omega (arith, k, k', long)) (omega (arith, e))))) e st

-- ---- the law

-- what is known of the states that a run reaches: an inlined call enters its callee, and a wide that is handed back is whole
pub record CallsEnter (s : Setting) (find : Bodies) (sites : Sites) (I : State → Type 0) : Type 0 where
  pub calls : (w : World) (c : Classes) (f : Frame) (rest : List Waiting) (script : List Move) (y : Callee) → I (On w c (Method f ∷ rest) script) → sites f.method f.position ≡ Some y
      → now s find w c f ≡ Enters y.key (map (register f) y.args)
  pub wholes : (w : World) (c : Classes) (h f : Frame) (rest : List Waiting) (script : List Move) (y : Callee) (t : Slot) (from : ℕ) → I (On w c (Method h ∷ Method f ∷ rest) script) → sites f.method f.position ≡ Some y
      → h.method ≡ y.key → form_here find h ≡ Some (form.Return t from) → is_wide_slot t ≡ true → (n : ℕ) × ((register h from ≡ Low n) × (register h (from + 1) ≡ High n))
  pub keeps : (t : State) → I t → I (step s find t).0

module _ (find other : Bodies) (need : MethodKey → ℕ → ℕ → Type 0) (sites : Sites) where
  abbrev P : Block → Block → Type 0
  P = Pairs find other need sites

  module _ (s : Setting) (I J : State → Type 0) (known : CallsEnter s find sites I) where
    -- ---- a callee goes on

    abbrev after_call : Frame → Value → Frame
    after_call f v = next (record f { result = v })

    abbrev result_of : Option Value → Value
    result_of None = Word 0
    result_of (Some v) = v

    module _ (w : World) (c : Classes) (h f g : Frame) (p : Inside find other need sites h f g) where
      abbrev two : Block
      two = record { top = h; below = f ∷ [] }

      abbrev b : NamedBody
      b = p.base.body

      abbrev at : ℕ → ℕ
      at = p.base.inlined.at

      here_call : form_here find f ≡ Some (form.Invoke p.is_callee.kind p.is_callee.called p.callee.args)
      here_call = form_of find f b (Some p.form) p.base.has p.here ∙ ap Some p.is_callee.call

      came_back : (v : Option Value) → back find f v ≡ after_call f (result_of v)
      came_back None = refl
      came_back (Some v) = ap (λ y. receives y f v) here_call

      -- the callee ends, and its caller goes on
      gives_back : (v : Option Value) → now s find w c h ≡ Ends v → Glides s find w c two 1 w c (alone (after_call f (result_of v)))
      gives_back v e = subst (λ z. Glides s find w c two 1 w c (alone z)) (came_back v) (step_ends s find w c h f v e)

      there : (o : Option Form) → form_at p.base.rest (p.copied.inner h.position) ≡ o → form_here other g ≡ o
      there o e = form_of other g p.base.rest o (ap other p.base.method ∙ p.base.has_rest) (ap (form_at p.base.rest) p.position ∙ e)

      next_in : Contains (onward p.form f.position) (f.position + 1)
      next_in = subst (λ z. Contains (onward z f.position) (f.position + 1)) (sym p.is_callee.call) (contains_here (f.position + 1) [])

      reached_next : IsReached b (f.position + 1)
      reached_next = walk_on (successors b) 0 f.position (f.position + 1) p.base.reached (goes_onward b f.position p.form p.here (f.position + 1) next_in)

      behind_none : (t : Taken) (end : ℕ) → Behind b at f.position t end → t ≡ None → (takes_result (form_at b (f.position + 1)) ≡ false) × (end ≡ at (f.position + 1))
      behind_none _ _ (Untaken e) q = (e, refl)
      behind_none _ _ (TakenBy r to e) q = none_some (r, to) (sym q)

      behind_some : (t : Taken) (end : ℕ) → Behind b at f.position t end → (r : Slot) (to : ℕ) → t ≡ Some (r, to) → (form_at b (f.position + 1) ≡ Some (form.MoveResult r to)) × (end ≡ at (f.position + 2))
      behind_some _ _ (Untaken e) r to q = none_some (r, to) q
      behind_some _ _ (TakenBy r' to' e) r to q = (subst (λ z. form_at b (f.position + 1) ≡ Some (form.MoveResult z.0 z.1)) (some_same (r', to') (r, to) q) e, refl)

      -- nobody takes the result
      ends_untaken : (v : Option Value) → now s find w c h ≡ Ends v → p.copied.taken ≡ None → form_at p.base.rest (p.copied.inner h.position) ≡ Some (form.Goto p.copied.end) → Goes s find other P w c two (alone g)
      ends_untaken v e q d =
          let k = behind_none p.copied.taken p.copied.end p.copied.behind q in
          Leaps two (alone g) 0 0 w c (alone (after_call f (result_of v))) (alone (go g p.copied.end)) (gives_back v e) (step_goto s other w c g p.copied.end (there (Some (form.Goto p.copied.end)) d))
          (OneFrame (after_call f (result_of v)) (go g p.copied.end) (arrives find other need sites f g p.base (f.position + 1) p.copied.end f.registers g.registers (result_of v) g.result f.caught g.caught
          reached_next (λ m i j. k.0) k.1 p.base.registers (λ t. absurd (true≢false (sym t ∙ k.0))) p.base.exception))

      -- the result is taken
      module _ (t : Slot) (from : ℕ) (r : Slot) (to : ℕ) (at_return : form_at p.callee.body h.position ≡ Some (form.Return t from)) (same : is_wide_slot r ≡ is_wide_slot t) where
        abbrev v : Value
        v = register h from

        abbrev up : ℕ → ℕ
        up = p.base.inlined.up

        first_half : register g from ≡ v
        first_half = read_inside find other need sites h f g p (form.Return t from) from at_return (own (is_wide_slot t) from)

        handed_over : (r : Slot) → (is_wide_slot r ≡ true → (n : ℕ) × ((register h from ≡ Low n) × ((register h (from + 1) ≡ High n) × (register g (from + 1) ≡ register h (from + 1)))))
            → (move_slot r g (up to) from).registers ≡ p.base.low ++ (write_slot r (after_call f v) to v).registers
        handed_over slot.Word whole = ap (λ z. slice_set g.registers (up to) z) first_half ∙ write_high find other need sites f g p.base to (up to) v (p.base.inlined.ups to)
        handed_over slot.Object whole = ap (λ z. slice_set g.registers (up to) z) first_half ∙ write_high find other need sites f g p.base to (up to) v (p.base.inlined.ups to)
        handed_over slot.Wide whole =
            let k = whole refl in
            ap (λ z. slice_set (slice_set g.registers (up to) z) (up to + 1) (register g (from + 1))) (first_half ∙ k.1.0 ∙ ap (λ z. Low (word_of z)) (sym k.1.0))
            ∙ ap (λ z. slice_set (slice_set g.registers (up to) (Low (word_of v))) (up to + 1) z) (k.1.1.1 ∙ k.1.1.0 ∙ ap (λ z. High (word_of z)) (sym k.1.0))
            ∙ write_two find other need sites f g p.base to (Low (word_of v)) (High (word_of v))

        -- the second half of a wide is read too
        second_half : is_wide_slot t ≡ true → register g (from + 1) ≡ register h (from + 1)
        second_half e = read_inside find other need sites h f g p (form.Return t from) (from + 1) at_return (ap (λ z. in_operand z from (from + 1)) e ∙ second_own from)

        ends_taken : (rest : List Waiting) (script : List Move) → I (On w c (stacked two rest) script) → p.copied.taken ≡ Some (r, to)
            → form_at p.base.rest (p.copied.inner h.position) ≡ Some (form.Move r (up to) from) → form_at p.base.rest (p.copied.inner h.position + 1) ≡ Some (form.Goto p.copied.end) → Goes s find other P w c two (alone g)
        ends_taken rest script i q d d' =
            let k = behind_some p.copied.taken p.copied.end p.copied.behind r to q in
            let at_h : form_here find h ≡ Some (form.Return t from) = form_of find h p.callee.body (Some (form.Return t from)) (ap find p.method ∙ p.is_callee.found) at_return in
            let f1 : Frame = after_call f v in
            let f2 : Frame = next (write_slot r f1 to v) in
            let g1 : Frame = next (move_slot r g (up to) from) in
            let at_f1 : form_here find f1 ≡ Some (form.MoveResult r to) = form_of find f1 b (Some (form.MoveResult r to)) p.base.has k.0 in
            let first : Glides s find w c two 1 w c (alone f1) = gives_back (Some v) (now_by s find w c h (Some (form.Return t from)) at_h) in
            let second : Glides s find w c (alone f1) 1 w c (alone f2) = step_stays s find w c (alone f1) w f2 (now_by s find w c f1 (Some (form.MoveResult r to)) at_f1) in
            let first' : Glides s other w c (alone g) 1 w c (alone g1) = step_move s other w c g r (up to) from (there (Some (form.Move r (up to) from)) d) in
            let at_g1 : form_here other g1 ≡ Some (form.Goto p.copied.end) = form_of other g1 p.base.rest (Some (form.Goto p.copied.end)) (ap other (moved_method r) ∙ ap other p.base.method ∙ p.base.has_rest)
            (ap (form_at p.base.rest) (ap (λ n. n + 1) (moved_position r ∙ p.position)) ∙ d') in
            let second' : Glides s other w c (alone g1) 1 w c (alone (go g1 p.copied.end)) = step_goto s other w c g1 p.copied.end at_g1 in
            let next_on : Contains (onward (form.MoveResult r to) (f.position + 1)) (f.position + 1 + 1) = contains_here (f.position + 1 + 1) [] in
            let untaken : takes_result (form_at b (f.position + 1 + 1)) ≡ false = onward_untaken b p.base.inlined.in_place (f.position + 1) (form.MoveResult r to) k.0 refl (f.position + 1 + 1) next_on in
            Leaps two (alone g) 1 1 w c (alone f2) (alone (go g1 p.copied.end))
            (block_on s find w c two 1 w c (alone f1) 1 w c (alone f2) first second)
            (block_on s other w c (alone g) 1 w c (alone g1) 1 w c (alone (go g1 p.copied.end)) first' second')
            (subst (λ z. P (alone z) (alone (go g1 p.copied.end))) (sym (written_frame r)) (subst (λ z. P (alone (written (write_slot r f1 to v).registers)) (alone z)) (sym (moved_frame r))
            (OneFrame (written (write_slot r f1 to v).registers) (jumped (move_slot r g (up to) from).registers)
            (arrives find other need sites f g p.base (f.position + 1 + 1) p.copied.end (write_slot r f1 to v).registers (move_slot r g (up to) from).registers v g.result f.caught g.caught
            (walk_on (successors b) 0 (f.position + 1) (f.position + 1 + 1) reached_next (goes_onward b (f.position + 1) (form.MoveResult r to) k.0 (f.position + 1 + 1) next_on))
            (λ m i j. untaken) (k.1 ∙ ap at (sym (two_on f.position)))
            (handed_over r (λ e. let z = known.wholes w c h f rest script p.callee t from i p.site p.method at_h (sym same ∙ e) in (z.0, (z.1.0, (z.1.1, second_half (sym same ∙ e))))))
            (λ z. absurd (true≢false (sym z ∙ untaken))) p.base.exception))))
          where
            written : List Value → Frame
            written l = record { method = f.method; position = f.position + 1 + 1; registers = l; result = v; caught = f.caught }

            jumped : List Value → Frame
            jumped l = record { method = g.method; position = p.copied.end; registers = l; result = g.result; caught = g.caught }

            written_frame : (r : Slot) → next (write_slot r (after_call f v) to v) ≡ written (write_slot r (after_call f v) to v).registers
            written_frame slot.Word = refl
            written_frame slot.Object = refl
            written_frame slot.Wide = refl

            moved_frame : (r : Slot) → go (next (move_slot r g (up to) from)) p.copied.end ≡ jumped (move_slot r g (up to) from).registers
            moved_frame slot.Word = refl
            moved_frame slot.Object = refl
            moved_frame slot.Wide = refl

            moved_method : (r : Slot) → (move_slot r g (up to) from).method ≡ g.method
            moved_method slot.Word = refl
            moved_method slot.Object = refl
            moved_method slot.Wide = refl

            moved_position : (r : Slot) → (move_slot r g (up to) from).position ≡ g.position
            moved_position slot.Word = refl
            moved_position slot.Object = refl
            moved_position slot.Wide = refl

      inside_goes : (rest : List Waiting) (script : List Move) → I (On w c (stacked two rest) script) → Goes s find other P w c two (alone g)
      inside_goes rest script i = let r = p.copied.copies h.position p.come in by r.0 r.1.0 r.1.1
        where
          by : (x : Form) → form_at p.callee.body h.position ≡ Some x → Copied p.base.rest p.base.inlined.up p.copied.inner p.copied.taken p.copied.end h.position x → Goes s find other P w c two (alone g)
          by _ e (Kept x stays there after) = Stands two (alone g) (inner_stands find other need sites h f g p x e after s stays there)
          by _ e (Ended q d) = ends_untaken None (now_by s find w c h (Some form.ReturnVoid) (form_of find h p.callee.body (Some form.ReturnVoid) (ap find p.method ∙ p.is_callee.found) e)) q d
          by _ e (Dropped t from q d) = ends_untaken (Some (register h from)) (now_by s find w c h (Some (form.Return t from)) (form_of find h p.callee.body (Some (form.Return t from)) (ap find p.method ∙ p.is_callee.found) e)) q d
          by _ e (Handed t from r to q same d d') = ends_taken t from r to e same rest script i q d d'

    -- ---- a caller goes on

    map_length : (f : ℕ → Value) (rs : List ℕ) → length (map f rs) ≡ length rs
    map_length f [] = refl
    map_length f (r ∷ rs) = ap suc (map_length f rs)

    module _ (w : World) (c : Classes) (f g : Frame) (p : Paired find other need sites f g) (rest : List Waiting) (script : List Move) (i : I (On w c (Method f ∷ rest) script)) where
      abbrev body : NamedBody
      body = p.base.body

      abbrev shift : ℕ
      shift = p.base.inlined.shift

      enters : (x : Form) (y : Callee) → form_at body f.position ≡ Some x → sites f.method f.position ≡ Some y → IsCallee find need shift f.method x y
          → IsCopied body p.base.rest p.base.inlined.at p.base.inlined.up shift f.position y → Goes s find other P w c (alone f) (alone g)
      enters x y e d is cp =
          let vs : List Value = map (register f) y.args in
          let n : ℕ = y.body.registers - y.body.ins in
          let long : length vs ≡ y.body.ins = map_length (register f) y.args ∙ is.passes_all in
          let fits : y.body.registers ≤ length p.base.low = let a = is.fits in let k = p.base.long in omega (arith, a, k) in
          let r = cut y.body.registers p.base.low fits in
          let mine : List Value = r.0 in
          let pad : List Value = r.1.0 in
          let split : p.base.low ≡ mine ++ pad = r.1.1.0 in
          let wide : length mine ≡ y.body.registers = r.1.1.1 in
          let h : Frame = entry_frame y.key vs y.body in
          let written : List Value = overwritten mine n vs in
          let g1 : Frame = record { method = g.method; position = cp.inner 0; registers = (written ++ pad) ++ f.registers; result = g.result; caught = g.caught } in
          let sum : length mine + length pad ≡ shift = sym (append_length mine pad) ∙ ap (λ l. length l) (sym split) ∙ p.base.long in
          let starts : g ≡ record { method = g.method; position = g.position; registers = (mine ++ pad) ++ f.registers; result = g.result; caught = g.caught } =
          ap (λ l. record { method = g.method; position = g.position; registers = l; result = g.result; caught = g.caught }) (p.base.registers ∙ ap (λ l. l ++ f.registers) split) in
          let place : cp.inner 0 ≡ g.position + length (moves_of shift y) = cp.begins ∙ ap (λ m. m + length (moves_of shift y)) (sym p.position) in
          let stand : Stand p.base.rest g.position (moves_of shift y) = subst (λ m. Stand p.base.rest m (moves_of shift y)) (sym p.position) cp.moves in
          let moves : Glides s other w c (alone g) (length (moves_of shift y)) w c (alone g1) =
          subst (λ z. Glides s other w c (alone z) (length (moves_of shift y)) w c (alone g1)) (sym starts)
          (moved s other w c g.method p.base.rest (ap other p.base.method ∙ p.base.has_rest) g.result g.caught pad f.registers shift (passed_types y) y.args is.passes g.position n (cp.inner 0) mine
          (let a = is.ins in let k = is.passes_all in omega (arith, a, k, wide)) sum place stand) in
          let inside : Inside find other need sites h f g1 = record {
            base = record {
              body = body;
              rest = p.base.rest;
              has = p.base.has;
              has_rest = p.base.has_rest;
              inlined = p.base.inlined;
              reached = p.base.reached;
              lives = p.base.lives;
              method = p.base.method;
              low = written ++ pad;
              registers = refl;
              long = append_length written pad ∙ ap (λ m. m + length pad) (overwritten_length vs mine n) ∙ sum;
              exception = p.base.exception;
            };
            callee = y;
            form = x;
            here = e;
            site = d;
            is_callee = is;
            copied = cp;
            come = Arrives 0;
            method = refl;
            position = refl;
            mine = written;
            pad = pad;
            split = refl;
            wide = overwritten_length vs mine n ∙ wide;
            agrees = agree_entry (need y.key 0) n (Word 0) vs mine is.arguments (let a = is.ins in omega (arith, a, wide, long));
            result = λ t. absurd (true≢false (sym t ∙ is.begins));
          } in
          let enter : Glides s find w c (alone f) 1 w c (record { top = h; below = f ∷ [] }) = step_enters s find w c f y.key vs y.body (known.calls w c f rest script y i d) is.found long in
          by h g1 enter inside (length (moves_of shift y)) moves
        where
          top_of : State → Frame
          top_of (On w c (Method f ∷ r) script) = f
          top_of t = g

          by : (h g1 : Frame) → Glides s find w c (alone f) 1 w c (record { top = h; below = f ∷ [] }) → Inside find other need sites h f g1 → (n : ℕ) → Glides s other w c (alone g) n w c (alone g1) → Goes s find other P w c (alone f) (alone g)
          by h g1 enter inside zero moves =
              let same : g ≡ g1 = ap top_of (moves.ends [] script) in
              Later (alone f) (alone g) 0 (record { top = h; below = f ∷ [] }) enter (subst (λ z. Goes s find other P w c (record { top = h; below = f ∷ [] }) (alone z)) (sym same)
              (inside_goes w c h f g1 inside rest script (subst I (enter.ends rest script) (known.keeps (On w c (Method f ∷ rest) script) i))))
          by h g1 enter inside (suc n) moves = Leaps (alone f) (alone g) 0 n w c (record { top = h; below = f ∷ [] }) (alone g1) enter moves (TwoFrames h f g1 inside)

      caller_goes : Goes s find other P w c (alone f) (alone g)
      caller_goes = by (form_at body f.position) (sites f.method f.position) refl refl (p.base.inlined.went f.position p.base.reached p.base.lives)
        where
          by : (o : Option Form) (k : Option Callee) → form_at body f.position ≡ o → sites f.method f.position ≡ k → Went find need f.method body p.base.rest p.base.inlined.at p.base.inlined.up shift f.position o k
              → Goes s find other P w c (alone f) (alone g)
          by _ _ e d (WasPast n) = Past (alone f) (alone g) (form_of find f body None p.base.has e) (form_of other g p.base.rest None (ap other p.base.method ∙ p.base.has_rest) (ap (form_at p.base.rest) p.position ∙ n))
          by _ _ e d (Stood x there after hs) = Stands (alone f) (alone g) (outer_stands find other need sites s f g p x e d there after hs)
          by _ _ e d (Replaced x y is cp) = enters x y e d is cp

    pair_goes : (w : World) (c : Classes) (x y : Block) (rest : List Waiting) (script : List Move) → P x y → I (On w c (stacked x rest) script) → Goes s find other P w c x y
    pair_goes w c _ _ rest script (OneFrame f g p) i = caller_goes w c f g p rest script i
    pair_goes w c _ _ rest script (TwoFrames h f g p) i = inside_goes w c h f g p rest script i

    -- ---- entries

    module _ (inlined : (k : MethodKey) → AreInlined find need k (sites k) (find k) (other k)) (keeps_other : (t : State) → J t → J (step s other t).0) where
      replicated : (m n : ℕ) (z : Value) (vs : List Value) → replicate (m + n) z ++ vs ≡ replicate m z ++ (replicate n z ++ vs)
      replicated zero n z vs = let e : 0 + n ≡ n = omega arith in ap (λ k. replicate k z ++ vs) e
      replicated (suc m) n z vs = let e : suc m + n ≡ suc (m + n) = omega arith in ap (λ k. replicate k z ++ vs) e ∙ ap (λ l. z ∷ l) (replicated m n z vs)

      replicated_length : (m : ℕ) (z : Value) → length (replicate m z) ≡ m
      replicated_length zero z = refl
      replicated_length (suc m) z = ap suc (replicated_length m z)

      entry_pair : (k : MethodKey) (vs : List Value) (b r : NamedBody) → find k ≡ Some b → other k ≡ Some r → IsInlined find need k (sites k) b r → Paired find other need sites (entry_frame k vs b) (entry_frame k vs r)
      entry_pair k vs b r e d h = record {
        base = record {
          body = b;
          rest = r;
          has = e;
          has_rest = d;
          inlined = h;
          reached = Arrives 0;
          lives = λ m q j. let f : ⊥ = omega (arith, q) in absurd f;
          method = refl;
          low = replicate h.shift (Word 0);
          registers = let e : r.registers - r.ins ≡ h.shift + (b.registers - b.ins) = let a = h.registers in let c = h.ins in let l = h.room in omega (arith, a, c, l) in
              ap (λ n. replicate n (Word 0) ++ vs) e ∙ replicated h.shift (b.registers - b.ins) (Word 0) vs;
          long = replicated_length h.shift (Word 0);
          exception = refl;
        };
        position = sym h.entry;
        result = λ t. refl;
      }

      pub inlined_alike : GoAlike s find other P I J
      inlined_alike = record {
        goes = λ w c x y rest rest' script p i j. pair_goes w c x y rest script p i;
        entries = λ k vs. by k vs (find k) (other k) refl refl (inlined k);
        keeps = known.keeps;
        keeps_other = keeps_other;
      }
        where
          by : (k : MethodKey) (vs : List Value) (o o' : Option NamedBody) → find k ≡ o → other k ≡ o' → AreInlined find need k (sites k) o o' → Entries s find other P k vs o o'
          by k vs _ _ e d HasNeither = Neither
          by k vs _ _ e d (HasBoth b r h) = Both b r h.ins (λ l. OneFrame (entry_frame k vs b) (entry_frame k vs r) (entry_pair k vs b r e d h))

abbrev pub Any : State → Type 0
Any t = Unit {0}

-- the law of inlining, where inlined calls enter their callees in what a run keeps
pub inlined_shown : (p q : NamedProgram) (o : Outer) (need : MethodKey → ℕ → ℕ → Type 0) (sites : Sites) (calm : Framework → Text → Bool) (I : Framework → Floats → List Move → State → Type 0)
    → ((f : Framework) → face_of p f ≡ face_of q f)
    → ((k : MethodKey) → AreInlined (bodies_of p) need k (sites k) (bodies_of p k) (bodies_of q k))
    → ((f : Framework) (a : Floats) → IsCalm (setting_of p o f a) (calm f))
    → ((f : Framework) (a : Floats) (script : List Move) → Fit p o f script → CallsEnter (setting_of p o f a) (bodies_of p) sites (I f a script) × I f a script (calm_opening (calm f) script))
    → SameShown p q o
inlined_shown p q o need sites calm I face inlined is known = standing_shown p q o calm (Pairs (bodies_of p) (bodies_of q) need sites) I (λ f a script. Any) face is
    (λ f a script h. inlined_alike (bodies_of p) (bodies_of q) need sites (setting_of p o f a) (I f a script) Any (known f a script h).0 inlined (λ t j. tt))
    (λ f a script h. ((known f a script h).1, tt))
