-- Forms that read the originals of copies that a Move stands for read originals.
use Rattle.std.proofs.Common.{◌≡◌, ℕ, suc, ◌+◌, ◌<◌, Bool, true, false, List, [], ◌∷◌, Option, Some, None, refl, sym, ap, ap₂, ◌∙◌, subst, arith}
use Rattle.std.specs.Prelude.{◌&&◌, ◌||◌, not, nat_eq, if◌then◌else◌, All}
use Rattle.std.proofs.lemmas.Bool.{eq-eqb, eqb-true}
use Rattle.lemmas.proofs.Options.{some_same}
use Rattle.insn_set.specs.Registers.{in_operand}
use Rattle.insn_set.specs.Widths.{is_wide_slot}
use Rattle.insn_set.specs.declared.ops.Slot.{Slot}
use Rattle.insn_set.specs.declared.ops.Slot.TheVariants as slot
use Rattle.dalvik_defs.specs.declared.forms.Form.{Form}
use Rattle.dalvik_defs.specs.declared.forms.Form.TheVariants as form
use Rattle.dalvik_defs.specs.declared.program.NamedBody.{NamedBody}
use Rattle.pass_defs.specs.Remade.{remade}
use Rattle.pass_defs.specs.Stale.{reads_as}
use Rattle.pass_defs.specs.Walks.{form_at}
use Rattle.form_laws.specs.Changes.{width_if, TakesPair}
use Rattle.form_laws.proofs.Onward.{clash}
use Rattle.form_laws.specs.Copied.{Stands, Itself, Original, ReadsOriginals}
use Rattle.form_laws.specs.Reread.{Copied, substituted, StandsThere, AreReread}

pub first : (b : NamedBody) (n : ℕ) (f : Form) (c : Copied) (cs : List Copied) → All (StandsThere b n f) (c ∷ cs) → StandsThere b n f c
first b n f c cs h = h 0 c (omega arith)

pub rest : (b : NamedBody) (n : ℕ) (f : Form) (c : Copied) (cs : List Copied) → All (StandsThere b n f) (c ∷ cs) → All (StandsThere b n f) cs
rest b n f c cs h = λ k d lt. h (suc k) d (omega (arith, lt))

module _ (b : NamedBody) (n : ℕ) (f : Form) where
  -- what stands for a register by the first copy that has it
  stands_first : (cs : List Copied) → All (StandsThere b n f) cs → (o : ℕ) → Stands b n o (substituted cs o)
  stands_first [] h o = Itself o
  stands_first (c ∷ cs) h o = at (nat_eq o c.to) refl (stands_first cs (rest b n f c cs h) o)
    where
      there : StandsThere b n f c
      there = first b n f c cs h

      copied : (x i : ℕ) → i < width_if (is_wide_slot c.slot) → o ≡ c.to + i → x ≡ c.from + i → Stands b n o x
      copied x i lt e j = Original o x x (record {
        at = c.at;
        slot = c.slot;
        to = c.to;
        from = c.from;
        stands = there.copy;
        apart = there.stands.apart;
        kept = there.stands.kept;
        place = i;
        below = lt;
        old = e;
        new = j;
      }) (Itself x)

      low : (v : Bool) → 0 < width_if v
      low true = omega arith
      low false = omega arith

      behind : (v u : Bool) → is_wide_slot c.slot ≡ v → nat_eq o (c.to + 1) ≡ u → Stands b n o (substituted cs o) → Stands b n o (if v && u then c.from + 1 else substituted cs o)
      behind true true i j k = copied (c.from + 1) 1 (subst (λ v. 1 < width_if v) (sym i) (omega arith)) (eqb-true o (c.to + 1) j) refl
      behind true false i j k = k
      behind false u i j k = k

      at : (v : Bool) → nat_eq o c.to ≡ v → Stands b n o (substituted cs o)
          → Stands b n o (if v then c.from else if is_wide_slot c.slot && nat_eq o (c.to + 1) then c.from + 1 else substituted cs o)
      at true i k = let e = eqb-true o c.to i in copied c.from 0 (low (is_wide_slot c.slot)) (omega (arith, e)) (omega arith)
      at false i k = behind (is_wide_slot c.slot) (nat_eq o (c.to + 1)) refl refl k

-- ---- halves of a wide

or_false : (a : Bool) → (a || false) ≡ true → a ≡ true
or_false true e = refl
or_false false e = e

and_not : (a b : Bool) {A : Type 0} → (a && not (b || false)) ≡ true → (a ≡ true → b ≡ true) → A
and_not true true e h = clash false e refl
and_not true false e h = clash false (h refl) refl
and_not false b e h = clash false e refl

-- a copy that is read by the move of a wide is one of a wide, of the registers that are moved
whole : (to from : ℕ) (s : Slot) (r : ℕ) → reads_as s (form.Move slot.Wide to from) r ≡ true → (is_wide_slot s ≡ true) × (from ≡ r)
whole to from slot.Wide r e = (refl, sym (eqb-true r from (or_false (nat_eq r from) e)))
whole to from slot.Word r e = and_not (in_operand true from r) (in_operand true from r) e (λ h. h)
whole to from slot.Object r e = and_not (in_operand true from r) (in_operand true from r) e (λ h. h)

moved_together : (b : NamedBody) (n to from : ℕ) (cs : List Copied) → All (StandsThere b n (form.Move slot.Wide to from)) cs → substituted cs (from + 1) ≡ substituted cs from + 1
moved_together b n to from [] h = refl
moved_together b n to from (c ∷ cs) h =
    let w = whole to from c.slot c.to (first b n (form.Move slot.Wide to from) c cs h).stands.read in
    let e = w.1 in
    let low : nat_eq from c.to ≡ true = eq-eqb from c.to e in
    let high : nat_eq (from + 1) (c.to + 1) ≡ true = eq-eqb (from + 1) (c.to + 1) (ap (λ x. x + 1) e) in
    behind (nat_eq (from + 1) c.to) refl w.0 high ∙ sym (ap (λ v. (if v then c.from else if is_wide_slot c.slot && nat_eq from (c.to + 1) then c.from + 1 else substituted cs from) + 1) low)
  where
    behind : (v : Bool) → nat_eq (from + 1) c.to ≡ v → is_wide_slot c.slot ≡ true → nat_eq (from + 1) (c.to + 1) ≡ true
        → (if v then c.from else if is_wide_slot c.slot && nat_eq (from + 1) (c.to + 1) then c.from + 1 else substituted cs (from + 1)) ≡ c.from + 1
    behind true i wide high = let a = eqb-true (from + 1) c.to i in let z = eqb-true (from + 1) (c.to + 1) high in absurd (omega (arith, a, z))
    behind false i wide high = ap₂ (λ x y. if x && y then c.from + 1 else substituted cs (from + 1)) wide high

pairs_first : (b : NamedBody) (n : ℕ) (f : Form) (cs : List Copied) → All (StandsThere b n f) cs → TakesPair (substituted cs) f
pairs_first b n (form.Move slot.Wide to from) cs h = moved_together b n to from cs h
pairs_first b n f cs h = tt

-- ---- bodies

module _ (b d : NamedBody) (all : AreReread b d) where
  -- the copies that are read at a position
  pub record Known (n : ℕ) (o : Option Form) : Type 0 where
    pub copies : List Copied
    pub stale : (f : Form) → o ≡ Some f → All (StandsThere b n f) copies
    pub form : (f : Form) → o ≡ Some f → form_at d n ≡ Some (remade (substituted copies) (λ r. r) (λ t. t) f)

  pub known : (n : ℕ) (o : Option Form) → form_at b n ≡ o → Known n o
  known n None e = record {
    copies = [];
    stale = λ f i. none f i;
    form = λ f i. none f i;
  }
    where
      none : (f : Form) {A : Type 0} → None ≡ Some f → A
      none f i = clash true refl (ap (λ o. elim o as (λ o. Bool) [ Some x ↦ false | None ↦ true ]) i)
  known n (Some g) e = let h = all.forms n g e in let r = h.1.1 in record {
    copies = r.copies;
    stale = λ f i. subst (λ x. All (StandsThere b n x) r.copies) (some_same g f i) r.stale;
    form = λ f i. subst (λ x. form_at d n ≡ Some (remade (substituted r.copies) (λ r. r) (λ t. t) x)) (some_same g f i) (h.1.0 ∙ ap Some r.form);
  }

  pub known_at : (n : ℕ) → Known n (form_at b n)
  known_at n = known n (form_at b n) refl

  pub reread_reads : ReadsOriginals b d
  reread_reads = record {
    new = λ n. substituted (known_at n).copies;
    forms = λ n f e. (known_at n).form f e;
    ends = all.ends;
    regions = all.regions;
    registers = all.registers;
    ins = all.ins;
    pairs = λ n f e. pairs_first b n f (known_at n).copies ((known_at n).stale f e);
    stands = λ n f r e reached a. stands_first b n f (known_at n).copies ((known_at n).stale f e) r;
  }

  pub reread_new : (n : ℕ) → reread_reads.new n ≡ substituted (known_at n).copies
  unfolding reread_reads
  reread_new n = refl

  -- what is true of the copies of each form is true of those
  pub known_all : (P : Copied → Type 0) (n : ℕ) → ((f : Form) (e : form_at b n ≡ Some f) → All P (all.forms n f e).1.1.copies) → (f : Form) → form_at b n ≡ Some f → All P (known_at n).copies
  unfolding known known_at
  known_all P n h f e = by (form_at b n) refl (λ g i. h g i)
    where
      by : (o : Option Form) (i : form_at b n ≡ o) → ((g : Form) (j : form_at b n ≡ Some g) → All P (all.forms n g j).1.1.copies) → All P (known n o i).copies
      by None i h = λ k d lt. absurd (omega (arith, lt))
      by (Some g) i h = h g i
