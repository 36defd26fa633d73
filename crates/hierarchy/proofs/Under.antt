-- What it is for a class to be under another, by the last step of the walk there.
use Rattle.std.proofs.Common.{◌≡◌, ℕ, zero, suc, ◌<◌, ◌⊎◌, inl, inr, Bool, true, false, true≢false, nat_eq, List, [], ◌∷◌, length, Option, Some, None, refl, sym, ap, subst, ◌∙◌, arith}
use Rattle.std.specs.Prelude.{◌||◌, cond}
use Rattle.std.specs.List.{list_any}
use Rattle.program_model.specs.declared.program.Program.{Program}
use Rattle.class_defs.specs.Places.{super_place, interface_places, placed, above_places, walks, is_under}
use Rattle.class_defs.proofs.Positions.{number_test, number_of}
use Rattle.hierarchy.specs.Climbing.{In, ups}
use Rattle.hierarchy.specs.Ranks.{IsRanked}
use Rattle.hierarchy.specs.Tables.{read_at, row_of}
use Rattle.class_defs.specs.Finding.{beside}
use Rattle.hierarchy.proofs.Above.{in_left, in_right, in_split, in_beside, beside_in, super_short, interface_short}
use Rattle.hierarchy.proofs.AlongOrder.{list_below, super_below}
use Rattle.hierarchy.proofs.Resolving.{short}

-- ---- tests over lists

-- an element passes
pub record Passes (t : ℕ → Bool) (us : List ℕ) : Type 0 where
  pub one : ℕ
  pub there : In one us
  pub is : t one ≡ true

pub passes : (t : ℕ → Bool) (us : List ℕ) → list_any t us ≡ true → Passes t us
passes t [] e = absurd (true≢false (sym e))
passes t (u ∷ us) e = by_test (t u) refl e (passes t us)
  where
    by_test : (b : Bool) → t u ≡ b → (b || list_any t us) ≡ true → (list_any t us ≡ true → Passes t us) → Passes t (u ∷ us)
    by_test true f g more = record { one = u; there = inl refl; is = f }
    by_test false f g more = let r = more g in record { one = r.one; there = inr r.there; is = r.is }

pub passed : (t : ℕ → Bool) (us : List ℕ) (u : ℕ) → In u us → t u ≡ true → list_any t us ≡ true
passed t [] u i e = absurd i
passed t (v ∷ vs) u (inl s) e = ap (λ b. b || list_any t vs) (sym (ap t s) ∙ e)
passed t (v ∷ vs) u (inr i) e = by_test (t v) (passed t vs u i e)
  where
    by_test : (b : Bool) → list_any t vs ≡ true → (b || list_any t vs) ≡ true
    by_test true f = refl
    by_test false f = f

-- ---- walks

-- a walk up to a class by so many steps
abbrev pub Way : (ℕ → List ℕ) → ℕ → List ℕ → ℕ → Type 0
Way above c [] d = c ≡ d
Way above c (m ∷ ms) d = In m (above c) × Way above m ms d

pub record Goes (above : ℕ → List ℕ) (c d : ℕ) : Type 0 where
  pub mids : List ℕ
  pub way : Way above c mids d

same_walks : (above : ℕ → List ℕ) (n c d : ℕ) → c ≡ d → walks above n c d ≡ true
same_walks above zero c d e = number_test c d e
same_walks above (suc n) c d e = ap (λ b. cond b true (list_any (λ u. walks above n u d) (above c))) (number_test c d e)

goes : (above : ℕ → List ℕ) (n c d : ℕ) → walks above n c d ≡ true → Goes above c d
goes above zero c d e = record { mids = []; way = number_of c d e }
goes above (suc n) c d e = by_test (nat_eq c d) refl e (λ u f. goes above n u d f)
  where
    by_test : (b : Bool) → nat_eq c d ≡ b → cond b true (list_any (λ u. walks above n u d) (above c)) ≡ true → ((u : ℕ) → walks above n u d ≡ true → Goes above u d) → Goes above c d
    by_test true f g more = record { mids = []; way = number_of c d f }
    by_test false f g more = let p = passes (λ u. walks above n u d) (above c) g in let r = more p.one p.is in record { mids = p.one ∷ r.mids; way = (p.there, r.way) }

-- one step more at the end
way_more : (above : ℕ → List ℕ) (c : ℕ) (ms : List ℕ) (e d : ℕ) → Way above c ms e → In d (above e) → Goes above c d
way_more above c [] e d w i = record { mids = d ∷ []; way = (subst (λ x. In d (above x)) (sym w) i, refl) }
way_more above c (m ∷ ms) e d w i = let r = way_more above m ms e d w.1 i in record { mids = m ∷ r.mids; way = (w.0, r.way) }

-- the last step
pub record Last (above : ℕ → List ℕ) (c d : ℕ) : Type 0 where
  pub one : ℕ
  pub goes : Goes above c one
  pub there : In d (above one)

way_last : (above : ℕ → List ℕ) (c : ℕ) (ms : List ℕ) (d : ℕ) → Way above c ms d → (c ≡ d) ⊎ Last above c d
way_last above c [] d w = inl w
way_last above c (m ∷ ms) d w = elim (way_last above m ms d w.1) [
  | inl same ↦ inr (record { one = c; goes = record { mids = []; way = refl }; there = subst (λ x. In x (above c)) same w.0 })
  | inr l ↦ (let g = l.goes in inr (record { one = l.one; goes = record { mids = m ∷ g.mids; way = (w.0, g.way) }; there = l.there }))
]

-- ---- classes of a program

pub above_placed : (o : Option ℕ) (us : List ℕ) (u : ℕ) → In u (placed o us) → (o ≡ Some u) ⊎ In u us
above_placed None us u i = inr i
above_placed (Some c) us u (inl s) = inl (ap (λ x. Some x) (sym s))
above_placed (Some c) us u (inr i) = inr i

placed_super : (o : Option ℕ) (us : List ℕ) (u : ℕ) → o ≡ Some u → In u (placed o us)
placed_super o us u e = subst (λ w. In u (placed w us)) (sym e) (inl refl)

placed_list : (o : Option ℕ) (us : List ℕ) (u : ℕ) → In u us → In u (placed o us)
placed_list None us u i = i
placed_list (Some c) us u i = inr i

pub above_short : (p : Program) (c u : ℕ) → In u (above_places p c) → u < length p.classes
above_short p c u i = elim (above_placed (super_place p c) (interface_places p c) u i) [ inl e ↦ super_short p c u e | inr j ↦ interface_short p c u j ]

module _ (p : Program) (r : IsRanked p) where
  above_lower : (c u : ℕ) → In u (above_places p c) → r.rank u < r.rank c
  above_lower c u i = elim (above_placed (super_place p c) (interface_places p c) u i) [ inl e ↦ super_below p r c u e | inr j ↦ list_below p r c u j ]

  walked : (n c : ℕ) (ms : List ℕ) (d : ℕ) → r.rank c < n → Way (above_places p) c ms d → walks (above_places p) n c d ≡ true
  walked n c [] d l w = same_walks (above_places p) n c d w
  walked zero c (m ∷ ms) d l w = absurd (omega (arith, l))
  walked (suc n) c (m ∷ ms) d l w = by_test (nat_eq c d) (passed (λ u. walks (above_places p) n u d) (above_places p c) m w.0 (walked n m ms d (let b = above_lower c m w.0 in omega (arith, b, l)) w.1))
    where
      by_test : (b : Bool) → list_any (λ u. walks (above_places p) n u d) (above_places p c) ≡ true → cond b true (list_any (λ u. walks (above_places p) n u d) (above_places p c)) ≡ true
      by_test true e = refl
      by_test false e = e

  pub under_goes : (c d : ℕ) → c < length p.classes → Goes (above_places p) c d → is_under p c d ≡ true
  under_goes c d lt g = walked (length p.classes) c g.mids d (short p r c lt) g.way

  pub under_self : (c d : ℕ) → c ≡ d → is_under p c d ≡ true
  under_self c d e = same_walks (above_places p) (length p.classes) c d e

  pub under_more : (c e d : ℕ) → c < length p.classes → is_under p c e ≡ true → In d (above_places p e) → is_under p c d ≡ true
  under_more c e d lt u i = let g = goes (above_places p) (length p.classes) c e u in under_goes c d lt (way_more (above_places p) c g.mids e d g.way i)

  -- a class that is under another is that one, or it is under a class directly below it
  pub record Below (c d : ℕ) : Type 0 where
    pub one : ℕ
    pub under : is_under p c one ≡ true
    pub there : In d (above_places p one)

  pub under_last : (c d : ℕ) → c < length p.classes → is_under p c d ≡ true → (c ≡ d) ⊎ Below c d
  under_last c d lt u =
      let g = goes (above_places p) (length p.classes) c d u in
      elim (way_last (above_places p) c g.mids d g.way) [ inl e ↦ inl e | inr l ↦ inr (record { one = l.one; under = under_goes c l.one lt l.goes; there = l.there }) ]

-- ---- by tables

pub ups_above : (p : Program) (supers : List ℕ) (rows : List (List ℕ)) → ((c : ℕ) → read_at supers c ≡ super_place p c) → ((c : ℕ) → row_of rows c ≡ interface_places p c) → (c u : ℕ) → In u (ups supers rows c) → In u (above_places p c)
ups_above p supers rows a b c u i = elim (in_split u (row_of rows c) (beside (read_at supers c)) i) [
  | inl j ↦ placed_list (super_place p c) (interface_places p c) u (subst (In u) (b c) j)
  | inr j ↦ placed_super (super_place p c) (interface_places p c) u (sym (a c) ∙ in_beside u (read_at supers c) j)
]

pub above_ups : (p : Program) (supers : List ℕ) (rows : List (List ℕ)) → ((c : ℕ) → read_at supers c ≡ super_place p c) → ((c : ℕ) → row_of rows c ≡ interface_places p c) → (c u : ℕ) → In u (above_places p c) → In u (ups supers rows c)
above_ups p supers rows a b c u i = elim (above_placed (super_place p c) (interface_places p c) u i) [
  | inl e ↦ in_right u (row_of rows c) (beside (read_at supers c)) (beside_in u (read_at supers c) (a c ∙ e))
  | inr j ↦ in_left u (row_of rows c) (beside (read_at supers c)) (subst (In u) (sym (b c)) j)
]
