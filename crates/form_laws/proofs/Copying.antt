-- A program that reads originals in place of copies shows the same.
use Rattle.std.proofs.Common.{◌≡◌, ℕ, zero, suc, ◌+◌, ◌-◌, ◌<◌, Bool, true, false, List, [], Some, None, refl, sym, ap, ap₂, ◌∙◌, subst, subst₂, inl, arith}
use Rattle.std.specs.Prelude.{◌||◌, ◌&&◌, ◌++◌, nat_eq, replicate, slice_index_or, Contains}
use Rattle.std.proofs.lemmas.Bool.{eq-eqb, eqb-true}
use Rattle.lemmas.proofs.Bools.{and_both, or_left}
use Rattle.insn_set.specs.Registers.{in_operand}
use Rattle.insn_set.specs.Widths.{is_wide_slot}
use Rattle.dalvik_defs.specs.Face.{Bodies, bodies_of}
use Rattle.dalvik_defs.specs.Outer.{Outer}
use Rattle.dalvik_defs.specs.State.{State}
use Rattle.dalvik_defs.specs.declared.state.Value.{Value}
use Rattle.dalvik_defs.specs.declared.state.Value.TheVariants.{Word}
use Rattle.dalvik_defs.specs.declared.state.Frame.{Frame}
use Rattle.dalvik_defs.specs.Effect.{register}
use Rattle.dalvik_defs.specs.Stack.{entry_registers, entry_frame}
use Rattle.dalvik_defs.specs.Happens.{Setting}
use Rattle.dalvik_defs.specs.Step.{setting_of}
use Rattle.dalvik_defs.specs.Shown.{SameShown}
use Rattle.dalvik_defs.specs.declared.names.MethodKey.{MethodKey}
use Rattle.dalvik_defs.specs.declared.forms.Form.{Form}
use Rattle.dalvik_defs.specs.declared.forms.Form.TheVariants as form
use Rattle.dalvik_defs.specs.declared.program.NamedBody.{NamedBody}
use Rattle.dalvik_defs.specs.declared.program.NamedProgram.{NamedProgram}
use Rattle.pass_defs.specs.Bare.{reads, writes}
use Rattle.pass_defs.specs.Remade.{remade}
use Rattle.pass_defs.specs.Walks.{form_at, onward, caught, successors, IsReached}
use Rattle.pass_defs.specs.Stale.{in_copy, in_either, overlaps, IsSpoilt}
use Rattle.program_laws.specs.Bodies.{Change, changed}
use Rattle.program_laws.proofs.ChangedFaces.{face_same}
use Rattle.form_laws.specs.Changes.{In, destination, width_if, width}
use Rattle.form_laws.proofs.Forms.{form_law}
use Rattle.form_laws.proofs.Uses.{or_right, same_reads, writes_at, writes_from, remade_destination}
use Rattle.form_laws.specs.Rewriting.{Claims, frame_size, Holds, Unwritten, Comes, Writes, Keeps, Fits, IsInPlace}
use Rattle.form_laws.specs.Rewriting.{Copies as Moves}
use Rattle.form_laws.specs.Solid.{IsSolid, AllSolid}
use Rattle.form_laws.proofs.Onward.{clash, contained, in_front, in_back}
use Rattle.form_laws.proofs.Bodies.{replaced, some_replaced, none_replaced}
use Rattle.form_laws.proofs.Programs.{in_place_always}
use Rattle.form_laws.specs.Copied.{IsCopy, Stands, Itself, Original, ReadsOriginals, AllReadOriginals, Equals, Same, Copies}

-- ---- registers of a copy

operand_at : (b : Bool) (to i : ℕ) → i < width_if b → in_operand b to (to + i) ≡ true
operand_at true to zero lt = or_left (nat_eq (to + 0) to) (nat_eq (to + 0) (to + 1)) (eq-eqb (to + 0) to (omega arith))
operand_at true to (suc zero) lt = or_right (nat_eq (to + 1) to) (nat_eq (to + 1) (to + 1)) (eq-eqb (to + 1) (to + 1) refl)
operand_at true to (suc (suc i)) lt = absurd (omega (arith, lt))
operand_at false to zero lt = eq-eqb (to + 0) to (omega arith)
operand_at false to (suc i) lt = absurd (omega (arith, lt))

-- registers of the copy and of the original that are one overlap
meets : (b : Bool) (to from i j : ℕ) → i < width_if b → j < width_if b → from + i ≡ to + j → (in_operand b to from || in_operand b from to) ≡ true
meets false to from i j a c e = or_left (nat_eq from to) (nat_eq to from) (eq-eqb from to (omega (arith, a, c, e)))
meets true to from zero zero a c e = or_left _ _ (or_left (nat_eq from to) (nat_eq from (to + 1)) (eq-eqb from to (omega (arith, e))))
meets true to from (suc zero) (suc zero) a c e = or_left _ _ (or_left (nat_eq from to) (nat_eq from (to + 1)) (eq-eqb from to (omega (arith, e))))
meets true to from zero (suc zero) a c e = or_left _ _ (or_right (nat_eq from to) (nat_eq from (to + 1)) (eq-eqb from (to + 1) (omega (arith, e))))
meets true to from (suc zero) zero a c e = or_right (in_operand true to from) (in_operand true from to) (or_right (nat_eq to from) (nat_eq to (from + 1)) (eq-eqb to (from + 1) (omega (arith, e))))
meets true to from (suc (suc i)) j a c e = absurd (omega (arith, a))
meets true to from i (suc (suc j)) a c e = absurd (omega (arith, c))

module _ (s : Setting) (find other : Bodies) where
  abbrev I : State → Type 0
  I t = Unit {0}

  abbrev R : Claims
  R = Equals find

  module _ (k : MethodKey) (b d : NamedBody) (e : find k ≡ Some b) (e' : other k ≡ Some d) (reading : ReadsOriginals b d) (solid : IsSolid b) where
    same_body : (q : NamedBody) → find k ≡ Some q → q ≡ b
    same_body q i = ap (λ o. elim o as (λ o. NamedBody) [ Some z ↦ z | None ↦ q ]) (sym i ∙ e)

    module _ (n : ℕ) (f : Form) (x : form_at b n ≡ Some f) (reached : IsReached b n) where
      abbrev f' : Form
      f' = remade (reading.new n) (λ r. r) (λ t. t) f

      goes_to : (i : ℕ) → i < width f → destination f' ≡ destination f
      goes_to i lt = remade_destination (reading.new n) (λ r. r) (λ t. t) f i lt

      successor : (m : ℕ) → In m (onward f n ++ caught b f n) → Contains (successors b n) m
      successor m i = contained m (successors b n) (subst (λ o. In m (elim o as (λ o. List ℕ) [ Some f ↦ onward f n ++ caught b f n | None ↦ [] ])) (sym x) i)

      unwritten : (o y : ℕ) → writes f o ≡ false → writes f y ≡ false → Unwritten f f' o y
      unwritten o y i j = record {
        old = λ a lt z. clash (writes f o) (ap (writes f) z ∙ writes_at f a lt) i;
        new = λ a lt z. clash (writes f y) (ap (writes f) (z ∙ ap (λ q. q + a) (goes_to a lt)) ∙ writes_at f a lt) j;
      }

      -- a copy that is kept behind another form was there, and the form writes none of its registers
      kept_before : (m o y : ℕ) (c : IsCopy b m o y) → nat_eq n c.at ≡ false → In m (onward f n ++ caught b f n) → IsCopy b n o y
      kept_before m o y c i j = record {
        at = c.at;
        slot = c.slot;
        to = c.to;
        from = c.from;
        stands = c.stands;
        apart = c.apart;
        kept = λ z. c.kept (IsSpoilt.Stays n m i z (successor m j));
        place = c.place;
        below = c.below;
        old = c.old;
        new = c.new;
      }

      not_written : (m o y : ℕ) (c : IsCopy b m o y) → nat_eq n c.at ≡ false → In m (onward f n) → (r : ℕ) → in_either c.slot c.to c.from r ≡ true → writes f r ≡ false
      not_written m o y c i j r u = by (writes f r) refl
        where
          by : (v : Bool) → writes f r ≡ v → writes f r ≡ false
          by true z = absurd (c.kept (IsSpoilt.Written n m r f i reached x (and_both (in_either c.slot c.to c.from r) (writes f r) u z) (contained m (onward f n) j)))
          by false z = z

      -- the Move itself
      at_move : (m o y : ℕ) (c : IsCopy b m o y) → nat_eq n c.at ≡ true → f ≡ form.Move c.slot c.to c.from
      at_move m o y c i = ap (λ o. elim o as (λ o. Form) [ Some z ↦ z | None ↦ f ]) (sym x ∙ ap (form_at b) (eqb-true n c.at i) ∙ c.stands)

      comes : (m o y : ℕ) → In m (onward f n) → R k m o y → Comes R k n f f' o y
      comes m o y i (Same z) = by (writes f o) refl
        where
          by : (v : Bool) → writes f o ≡ v → Comes R k n f f' o y
          by true j = let w = writes_from f o j in Writes (record { place = w.0; below = w.1.0; old = w.1.1; new = z ∙ w.1.1 ∙ ap (λ q. q + w.0) (sym (goes_to w.0 w.1.0)) })
          by false j = Keeps (unwritten o y j (ap (writes f) z ∙ j)) (Same z)
      comes m o y i (Copies q h c0) = by (nat_eq n c.at) refl
        where
          c : IsCopy b m o y
          c = subst (λ q. IsCopy q m o y) (same_body q h) c0

          by : (v : Bool) → nat_eq n c.at ≡ v → Comes R k n f f' o y
          by true j =
              let is = at_move m o y c j in
              let w : width f ≡ width_if (is_wide_slot c.slot) = ap width is in
              let t : destination f ≡ c.to = ap destination is in
              Moves (record {
                slot = c.slot;
                to = c.to;
                from = c.from;
                is = is;
                place = c.place;
                below = subst (λ z. c.place < z) (sym w) c.below;
                old = c.old ∙ ap (λ z. z + c.place) (sym t);
                new = λ a lt z. clash (overlaps c.slot c.to c.from) (meets (is_wide_slot c.slot) c.to c.from c.place a c.below (subst (λ z. a < z) w lt) (sym c.new ∙ z ∙ ap (λ z. z + a) (goes_to a lt ∙ t))) c.apart;
                claim = Same c.new;
              })
          by false j = Keeps
              (unwritten o y
              (not_written m o y c j i o (or_left (in_copy c.slot c.to o) (in_copy c.slot c.from o) (subst (λ z. in_operand (is_wide_slot c.slot) c.to z ≡ true) (sym c.old) (operand_at (is_wide_slot c.slot) c.to c.place c.below))))
              (not_written m o y c j i y (or_right (in_copy c.slot c.to y) (in_copy c.slot c.from y) (subst (λ z. in_operand (is_wide_slot c.slot) c.from z ≡ true) (sym c.new) (operand_at (is_wide_slot c.slot) c.from c.place c.below)))))
              (Copies b e (kept_before m o y c j (in_front m (onward f n) (caught b f n) i)))

      caught_claims : (m o y : ℕ) → In m (caught b f n) → R k m o y → R k n o y
      caught_claims m o y i (Same z) = Same z
      caught_claims m o y i (Copies q h c0) = by (nat_eq n c.at) refl
        where
          c : IsCopy b m o y
          c = subst (λ q. IsCopy q m o y) (same_body q h) c0

          by : (v : Bool) → nat_eq n c.at ≡ v → R k n o y
          by true j = elim (subst (λ z. In m (caught b z n)) (at_move m o y c j) i) [ ]
          by false j = Copies b e (kept_before m o y c j (in_back m (onward f n) (caught b f n) i))

      -- what stands for a register holds the same
      standing : (g g' : Frame) → Holds find other R g g' → g.method ≡ k → g.position ≡ n → (o y : ℕ) → Stands b n o y → register g' y ≡ register g o
      standing g g' h i j o y (Itself o1) = h.registers o o (Same refl)
      standing g g' h i j o y (Original o1 z y1 c t) =
          standing g g' h i j z y t ∙ sym (h.registers z z (Same refl)) ∙ h.registers o z (subst₂ (λ m p. R m p o z) (sym i) (sym j) (Copies b e c))

      fits : Fits s find other R I k b n f f'
      fits = record {
        alike = λ w c g g' rest script h i j ig. inl (form_law s.face.under s.floats (reading.new n) (λ r. r) (λ t. t) f w g g' h.result h.caught
            (same_reads (reading.new n) (λ r. r) (λ t. t) g g' f (λ r a. standing g g' h i j r (reading.new n r) (reading.stands n f r x reached a)) (reading.pairs n f x)));
        room = λ i lt. let u = solid.room n f (destination f + i) x (or_right (reads f (destination f + i)) (writes f (destination f + i)) (writes_at f i lt)) in
            let v : destination f' + i < d.registers = subst₂ (λ y z. y + i < z) (sym (goes_to i lt)) (sym reading.registers) u in
            (subst (λ o. destination f + i < frame_size o) (sym e) (omega (arith, u)), subst (λ o. destination f' + i < frame_size o) (sym e') (omega (arith, v)));
        onward = comes;
        caught = caught_claims;
      }

    entry : (vs : List Value) (o y : ℕ) → R k 0 o y → register (entry_frame k vs d) y ≡ register (entry_frame k vs b) o
    entry vs o y (Same z) = ap₂ (λ l y. slice_index_or l y (Word 0)) same z
      where
        same : entry_registers d vs ≡ entry_registers b vs
        same = ap₂ (λ y z. replicate (y - z) (Word 0) ++ vs) reading.registers reading.ins
    entry vs o y (Copies q i c) = absurd (c.kept IsSpoilt.Begins)

module _ (p : NamedProgram) (new : Change) (all : AllReadOriginals new p) (solid : AllSolid p) where
  abbrev find : Bodies
  find = bodies_of p

  abbrev other : Bodies
  other = bodies_of (changed new p)

  reads_in : (k : MethodKey) (b d : NamedBody) → find k ≡ Some b → other k ≡ Some d → ReadsOriginals b d
  reads_in k b d e e' = let r = replaced new p k b e in all.bodies r.class r.method b d r.in_program r.in_class r.body (sym r.other ∙ e')

  solid_in : (k : MethodKey) (b : NamedBody) → find k ≡ Some b → IsSolid b
  solid_in k b e = let r = replaced new p k b e in solid r.class r.method b r.in_program r.in_class r.body

  in_place : (s : Setting) → IsInPlace s find other (Equals find) (λ t. Unit {0})
  in_place s = record {
    none = none_replaced new p all.code;
    some = some_replaced new p all.code;
    ins = λ k b d e e'. (reads_in k b d e e').ins;
    regions = λ k b d e e'. (reads_in k b d e e').regions;
    fields = λ k b e. (solid_in k b e).fields;
    ends = λ k b d n e e' x. (reads_in k b d e e').ends n x;
    forms = λ k b d n f e e' r x. let h = reads_in k b d e e' in (remade (h.new n) (λ r. r) (λ t. t) f, (h.forms n f x, fits s find other k b d e e' h (solid_in k b e) n f x r));
    entry = λ k b d vs o y e e' l h. entry s find other k b d e e' (reads_in k b d e e') (solid_in k b e) vs o y h;
    keeps = λ t i. tt;
  }

  pub copied_shown : (o : Outer) → SameShown p (changed new p) o
  copied_shown o = in_place_always p (changed new p) o (Equals find) (λ f. sym (face_same new p all.code f)) (λ f a script h. in_place (setting_of p o f a))
