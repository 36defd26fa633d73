-- What has room is above every round.
use Rattle.std.proofs.Common.{◌≡◌, ℕ, suc, ◌+◌, ◌-◌, ◌≤◌, ◌<◌, max, cond, leb, ltb, eqb, Bool, true, false, List, [], ◌∷◌, length, refl, sym, ap, ◌∙◌, arith, inl, inr}
use Rattle.std.proofs.lemmas.Bool.{cases_lt, cases_eq, le-leb, lt-leb, lt-ltb, le-ltb, eq-eqb, ne_eqb}
use Rattle.std.specs.Prelude.{IsTrue, ◌↔◌}
use Rattle.std.proofs.Common.{All, map}
use Rattle.std.proofs.lemmas.List.Elements.{All-head, All-tail, All-nil, All-cons}
use Rattle.relax.specs.Steps.{IsSmall}
use Rattle.relax.specs.declared.step.Step.{Step}
use Rattle.relax.specs.declared.step.Step.TheVariants.{Fixed, Jump}
use Rattle.relax.specs.Sizes.{start, need, RoomFrom, HasRoom, Below, grown, firsts, cap}
use Rattle.relax.proofs.Starts.{farther}

three : (a b x y : ℕ) → a < b → x ≤ y → cond (leb x a) 1 (cond (leb x b) 2 3) ≤ cond (leb y a) 1 (cond (leb y b) 2 3)
three a b x y lt le =
    elim (cases_lt a y) [
      | inr y_a ↦ rw (le-leb x a (omega (arith, le, y_a)), le-leb y a y_a) (omega arith)
      | inl a_y ↦ elim (cases_lt b y) [
        | inl b_y ↦ rw (lt-leb y a a_y, lt-leb y b b_y) (at_most (leb x a) (leb x b))
        | inr y_b ↦ rw (lt-leb y a a_y, le-leb y b y_b, le-leb x b (omega (arith, le, y_b))) (two (leb x a))
      ]
    ]
  where
    at_most : (p q : Bool) → cond p 1 (cond q 2 3) ≤ 3
    at_most true q = omega arith
    at_most false true = omega arith
    at_most false false = omega arith

    two : (p : Bool) → cond p 1 2 ≤ 2
    two true = omega arith
    two false = omega arith

pub need_mono : (ss ts : List ℕ) (at : ℕ) (f : Step) → Below ss ts → need ss at f ≤ need ts at f
need_mono ss ts at (Fixed units) b = omega arith
need_mono ss ts at (Jump target) b =
    elim (cases_eq target at) [
      | inl e ↦ rw (eq-eqb target at e) (omega arith)
      | inr ne ↦ elim (cases_lt at target) [
        | inl lt ↦ rw (ne_eqb target at ne, lt-ltb at target lt) (three 127 32767 (start ss target - start ss at) (start ts target - start ts at) (omega arith) (omega (arith, farther ss ts at target (omega (arith, lt)) b)))
        | inr le ↦ rw (ne_eqb target at ne, le-ltb at target le) (three 128 32768 (start ss at - start ss target) (start ts at - start ts target) (omega arith) (omega (arith, farther ss ts target at le b)))
      ]
    ]

pub need_cap : (ss : List ℕ) (at : ℕ) (f : Step) → need ss at f ≤ cap f
need_cap ss at (Fixed units) = omega arith
need_cap ss at (Jump target) = few (eqb target at) (ltb at target) (leb (start ss target - start ss at) 127) (leb (start ss target - start ss at) 32767) (leb (start ss at - start ss target) 128) (leb (start ss at - start ss target) 32768)
  where
    few : (a b p q r s : Bool) → cond a 3 (cond b (cond p 1 (cond q 2 3)) (cond r 1 (cond s 2 3))) ≤ 3
    few true b p q r s = omega arith
    few false true true q r s = omega arith
    few false true false true r s = omega arith
    few false true false false r s = omega arith
    few false false p q true s = omega arith
    few false false p q false true = omega arith
    few false false p q false false = omega arith

pub grown_below : (sizes others : List ℕ) (at : ℕ) (fs : List Step) (ss os : List ℕ) → Below sizes others → RoomFrom others at fs os → Below ss os → Below (grown sizes at fs ss) os
grown_below sizes others at [] ss [] b room le = tt
grown_below sizes others at [] ss (o ∷ os) b room le = absurd room
grown_below sizes others at (f ∷ fs) ss [] b room le = absurd room
grown_below sizes others at (f ∷ fs) [] (o ∷ os) b room le = absurd le
grown_below sizes others at (f ∷ fs) (s ∷ ss) (o ∷ os) b room le = (omega (arith, le.0, room.0, need_mono sizes others at f b), grown_below sizes others (suc at) fs ss os b room.1 le.1)

head_is : (a b : ℕ) (xs ys : List ℕ) → a ∷ xs ≡ b ∷ ys → a ≡ b
head_is a b xs ys e = cc

tail_is : (a b : ℕ) (xs ys : List ℕ) → a ∷ xs ≡ b ∷ ys → xs ≡ ys
tail_is a b xs ys e = cc

pub settled_room : (sizes : List ℕ) (at : ℕ) (fs : List Step) (ss : List ℕ) → length fs ≡ length ss → grown sizes at fs ss ≡ ss → RoomFrom sizes at fs ss
settled_room sizes at [] [] len e = tt
settled_room sizes at [] (s ∷ ss) len e = absurd (omega (arith, len))
settled_room sizes at (f ∷ fs) [] len e = absurd (omega (arith, len))
settled_room sizes at (f ∷ fs) (s ∷ ss) len e =
    (omega (arith, head_is (max s (need sizes at f)) s (grown sizes (suc at) fs ss) ss e), settled_room sizes (suc at) fs ss (omega (arith, len)) (tail_is (max s (need sizes at f)) s (grown sizes (suc at) fs ss) ss e))

-- how much the sizes may still grow
abbrev pub slack : List Step → List ℕ → ℕ
slack [] ss = 0
slack (f ∷ fs) [] = 0
slack (f ∷ fs) (s ∷ ss) = (cap f - s) + slack fs ss

pub slack_le : (sizes : List ℕ) (at : ℕ) (fs : List Step) (ss : List ℕ) → slack fs (grown sizes at fs ss) ≤ slack fs ss
slack_le sizes at [] ss = omega arith
slack_le sizes at (f ∷ fs) [] = omega arith
slack_le sizes at (f ∷ fs) (s ∷ ss) = omega (arith, slack_le sizes (suc at) fs ss)

pub slack_falls : (sizes : List ℕ) (at : ℕ) (fs : List Step) (ss : List ℕ) → length fs ≡ length ss → (grown sizes at fs ss ≡ ss → ⊥) → slack fs (grown sizes at fs ss) < slack fs ss
slack_falls sizes at [] [] len ne = absurd (ne refl)
slack_falls sizes at [] (s ∷ ss) len ne = absurd (omega (arith, len))
slack_falls sizes at (f ∷ fs) [] len ne = absurd (omega (arith, len))
slack_falls sizes at (f ∷ fs) (s ∷ ss) len ne =
    elim (cases_lt s (need sizes at f)) [
      | inl lt ↦ omega (arith, lt, need_cap sizes at f, slack_le sizes (suc at) fs ss)
      | inr le ↦
          let same : max s (need sizes at f) ≡ s = omega (arith, le) in
          omega (arith, same, slack_falls sizes (suc at) fs ss (omega (arith, len)) (λ e. ne (ap (λ (h : ℕ). h ∷ grown sizes (suc at) fs ss) same ∙ ap (λ (t : List ℕ). s ∷ t) e)))
    ]

pub length_grown : (sizes : List ℕ) (at : ℕ) (fs : List Step) (ss : List ℕ) → length fs ≡ length ss → length (grown sizes at fs ss) ≡ length ss
length_grown sizes at [] [] len = refl
length_grown sizes at [] (s ∷ ss) len = absurd (omega (arith, len))
length_grown sizes at (f ∷ fs) [] len = refl
length_grown sizes at (f ∷ fs) (s ∷ ss) len = ap suc (length_grown sizes (suc at) fs ss (omega (arith, len)))

pub firsts_below : (others : List ℕ) (at : ℕ) (fs : List Step) (os : List ℕ) → RoomFrom others at fs os → Below (firsts fs) os
firsts_below others at [] [] room = tt
firsts_below others at [] (o ∷ os) room = absurd room
firsts_below others at (f ∷ fs) [] room = absurd room
firsts_below others at (f ∷ fs) (o ∷ os) room = (omega arith, firsts_below others (suc at) fs os room.1)

pub length_firsts : (fs : List Step) → length (firsts fs) ≡ length fs
length_firsts [] = refl
length_firsts (f ∷ fs) = ap suc (length_firsts fs)

pub smaller : (steps : List Step) (sizes next : List ℕ) (b was : Bool) → length steps ≡ length sizes → next ≡ grown sizes 0 steps sizes → IsTrue b ↔ (next ≡ sizes) → was ≡ false → slack steps next + cond b 0 1 < slack steps sizes + cond was 0 1
smaller steps sizes next true was len e same off = rw (e, off) (omega (arith, slack_le sizes 0 steps sizes))
smaller steps sizes next false was len e same off = rw (e, off) (omega (arith, slack_falls sizes 0 steps sizes len (λ h. not_true (same.1 (e ∙ h)))))
  where
    not_true : IsTrue false → ⊥
    not_true h = absurd cc

pub next_room : (steps : List Step) (sizes next : List ℕ) (b : Bool) → length steps ≡ length sizes → next ≡ grown sizes 0 steps sizes → IsTrue b ↔ (next ≡ sizes) → b ≡ true → HasRoom steps next
next_room steps sizes next b len e same on =
    let is : next ≡ sizes = same.0 on in
    rw is (settled_room sizes 0 steps sizes len (sym e ∙ is))

-- the most that each step ever has, which is room
pub room_caps : (sizes : List ℕ) (at : ℕ) (fs : List Step) → RoomFrom sizes at fs (map cap fs)
room_caps sizes at [] = tt
room_caps sizes at (f ∷ fs) = (need_cap sizes at f, room_caps sizes (suc at) fs)

cap_small : (f : Step) → IsSmall f → cap f ≤ 5
cap_small (Fixed units) small = small
cap_small (Jump target) small = omega arith

below_small : (ss : List ℕ) (fs : List Step) → All IsSmall fs → Below ss (map cap fs) → All (λ s. s ≤ 5) ss
below_small [] fs all b = All-nil (λ s. s ≤ 5)
below_small (s ∷ ss) [] all b = absurd b
below_small (s ∷ ss) (f ∷ fs) all b = All-cons (λ s. s ≤ 5) s ss (omega (arith, b.0, cap_small f (All-head IsSmall f fs all))) (below_small ss fs (All-tail IsSmall f fs all) b.1)

pub least_small : (steps : List Step) (sizes : List ℕ) → All IsSmall steps → ((others : List ℕ) → HasRoom steps others → Below sizes others) → All (λ s. s ≤ 5) sizes
least_small steps sizes all least = below_small sizes steps all (least (map cap steps) (room_caps (map cap steps) 0 steps))
