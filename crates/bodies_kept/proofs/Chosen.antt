-- Which fates come of which wishes.
use Rattle.std.proofs.Common.{◌≡◌, ◌⊎◌, inl, inr, ℕ, suc, ◌+◌, ◌<◌, ◌≤◌, Bool, true, false, List, length, refl, sym, ap, ◌∙◌, subst, arith}
use Rattle.std.specs.Prelude.{not, ◌&&◌, Option, Some, None, slice_get, map}
use Rattle.std.specs.Option.{option_map}
use Rattle.std.proofs.lemmas.List.{length-map}
use Rattle.std.proofs.lemmas.Option.{slice_get-map}
use Rattle.lemmas.proofs.Lists.{get_there, got_short}
use Rattle.insn_set.specs.declared.form.Insn.{Insn}
use Rattle.insn_set.specs.declared.form.Insn.TheVariants as insn
use Rattle.pass_defs.specs.Thinned.{Fate as Meant, stays}
use Rattle.pass_defs.specs.Thinned.{Stays as MeantStays, Empties as MeantEmpties, Goes as MeantGoes}
use Rattle.body_edit.specs.Fates.{fate_of, fates_of}
use Rattle.body_edit.specs.declared.fate.Fate.{Fate}
use Rattle.body_edit.specs.declared.fate.Fate.TheVariants.{Stays, Empties, Goes}
use Rattle.thin_pass.specs.Wishing.{wish_at, goes, is_to_go, leads_into, holds, is_held, emptied, fate_if, fates_from}
use Rattle.thin_pass.specs.Wishing.{fate_of as chosen}
use Rattle.thin_pass.proofs.Fated.{IsRun, IsFateAt, fate_is, long_upto}

emptied_left : (i : Insn) → fate_of (emptied i) ≡ MeantGoes → ⊥
emptied_left insn.Nop e = cc
emptied_left i e = cc

pub goes_by : (w : Fate) (held : Bool) (i : Insn) → fate_of (chosen w held i) ≡ MeantGoes → (w ≡ Goes) × (held ≡ false)
goes_by Goes false i e = (refl, refl)
goes_by Goes true i e = absurd (emptied_left i e)
goes_by Stays held i e = cc
goes_by Empties held i e = absurd (emptied_left i e)

pub left_by : (w : Fate) (held : Bool) (i : Insn) → (fate_of (chosen w held i) ≡ MeantGoes → ⊥) → (goes w ≡ false) ⊎ (held ≡ true)
left_by Goes false i e = absurd (e refl)
left_by Goes true i e = inr refl
left_by Stays held i e = inl refl
left_by Empties held i e = inl refl

pub lost_by : (w : Fate) (held : Bool) (i : Insn) → stays (fate_of (chosen w held i)) ≡ false → w ≡ Stays → ⊥
lost_by Stays held i e d = cc
lost_by Empties held i e d = cc
lost_by Goes held i e d = cc

emptied_stays : (i : Insn) → fate_of (emptied i) ≡ MeantStays → i ≡ insn.Nop
emptied_stays insn.Nop e = refl
emptied_stays i e = cc

-- what stays and is no nop was to stay
pub stays_by : (w : Fate) (held : Bool) (i : Insn) → (i ≡ insn.Nop → ⊥) → fate_of (chosen w held i) ≡ MeantStays → w ≡ Stays
stays_by Stays held i n e = refl
stays_by Empties held i n e = absurd (n (emptied_stays i e))
stays_by Goes true i n e = absurd (n (emptied_stays i e))
stays_by Goes false i n e = cc

-- ---- the fate at a position

module _ (is : List Insn) (ws : List Fate) where
  abbrev pub chosen_fates : List Meant
  chosen_fates = fates_of (fates_from is ws 0 (length is))

  pub long : length chosen_fates ≡ length is
  long = length-map (fates_from is ws 0 (length is)) fate_of ∙ long_upto is ws 0 0 (length is)

  pub record Chosen (n : ℕ) (i : Insn) (f : Meant) : Type 0 where
    pub start : ℕ
    pub run : IsRun ws start n
    pub is_it : f ≡ fate_of (chosen (wish_at ws n) (is_held is ws start n) i)

  from_mapped : (o : Option Fate) (f : Meant) → option_map fate_of o ≡ Some f → (g : Fate) × ((o ≡ Some g) × (fate_of g ≡ f))
  from_mapped None f e = cc
  from_mapped (Some g) f e = (g, (refl, cc))

  pub chosen_at : (n : ℕ) (i : Insn) (f : Meant) → slice_get is n ≡ Some i → slice_get chosen_fates n ≡ Some f → Chosen n i f
  chosen_at n i f e d =
      let g = from_mapped (slice_get (fates_from is ws 0 (length is)) n) f (sym (slice_get-map fate_of (fates_from is ws 0 (length is)) n) ∙ d) in
      let a = fate_is ws is n g.0 g.1.0 in
      record { start = a.start; run = a.run; is_it = sym g.1.1 ∙ ap fate_of (a.is_it ∙ ap (fate_if (wish_at ws n) (is_held is ws a.start n)) e) }

  -- each instruction has a fate
  pub fate_there : (n : ℕ) (i : Insn) → slice_get is n ≡ Some i → (f : Meant) × ((slice_get chosen_fates n ≡ Some f) × Chosen n i f)
  fate_there n i e = let f = get_there chosen_fates n (subst (λ (k : ℕ). n < k) (sym long) (got_short is n i e)) in (f.0, (f.1, chosen_at n i f.0 e f.1))

  -- each fate is one of an instruction
  pub insn_there : (n : ℕ) (f : Meant) → slice_get chosen_fates n ≡ Some f → (i : Insn) × ((slice_get is n ≡ Some i) × Chosen n i f)
  insn_there n f d = let i = get_there is n (subst (λ (k : ℕ). n < k) long (got_short chosen_fates n f d)) in (i.0, (i.1, chosen_at n i.0 f i.1 d))

  pub kept : (n : ℕ) (i : Insn) → slice_get is n ≡ Some i → wish_at ws n ≡ Stays → slice_get chosen_fates n ≡ Some MeantStays
  kept n i e w = let f = fate_there n i e in f.1.0 ∙ ap Some (f.1.1.is_it ∙ ap (λ v. fate_of (chosen v (is_held is ws f.1.1.start n) i)) w)

  pub not_gone : (n : ℕ) (i : Insn) → slice_get is n ≡ Some i → is_to_go ws n ≡ false → (f : Meant) × ((slice_get chosen_fates n ≡ Some f) × (f ≡ MeantGoes → ⊥))
  not_gone n i e w = let f = fate_there n i e in (f.0, (f.1.0, (λ g. by (goes_by (wish_at ws n) (is_held is ws f.1.1.start n) i (sym f.1.1.is_it ∙ g)))))
    where
      by : {h : Bool} → (wish_at ws n ≡ Goes) × (h ≡ false) → ⊥
      by (g, h) = let t : is_to_go ws n ≡ true = ap goes g in cc

  -- the branch that holds a position
  pub holds_next : (n start : ℕ) (o : Option Insn) → slice_get is (n + 1) ≡ o → holds (is_to_go ws (n + 1)) start n o ≡ true → (j : Insn) × ((slice_get is (n + 1) ≡ Some j) × ((is_to_go ws (n + 1) ≡ false) × (leads_into start n j ≡ true)))
  holds_next n start None e h = cc
  holds_next n start (Some j) e h = by (is_to_go ws (n + 1)) refl h
    where
      by : (b : Bool) → is_to_go ws (n + 1) ≡ b → (not b && leads_into start n j) ≡ true → (k : Insn) × ((slice_get is (n + 1) ≡ Some k) × ((is_to_go ws (n + 1) ≡ false) × (leads_into start n k ≡ true)))
      by true d k = cc
      by false d k = (j, (e, (d, k)))
