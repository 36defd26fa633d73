-- The wide ones among arguments.
use Rattle.std.proofs.Common.{◌≡◌, ◌<◌, ◌+◌, ℕ, suc, Bool, true, false, List, [], ◌∷◌, ◌++◌, length, take, drop, get_or, refl, sym, ap, ◌∙◌, subst, append_assoc, add-one, arith, drop-cons}
use Rattle.insn_regs.specs.Wides.{wide_arguments, first_wide, behind_argument}

-- where there is no register, there is no wide one
none_wide : (ws : List Bool) → wide_arguments ws [] ≡ []
none_wide [] = refl
none_wide (w ∷ ws) = refl

-- one argument after the other
next_wide : (w : Bool) (ws : List Bool) (rs : List ℕ) → wide_arguments (w ∷ ws) rs ≡ first_wide w rs ++ wide_arguments ws (behind_argument w rs)
next_wide true ws [] = sym (none_wide ws)
next_wide true ws (r ∷ rs) = refl
next_wide false ws [] = sym (none_wide ws)
next_wide false ws (r ∷ rs) = refl

pub wide_more : (ws : List Bool) (i : ℕ) (d w : Bool) (rest rest' found found' whole : List ℕ) → i < length ws → w ≡ get_or ws i d → found' ≡ found ++ first_wide w rest → rest' ≡ behind_argument w rest
    → found ++ wide_arguments (drop i ws) rest ≡ whole → found' ++ wide_arguments (drop (i + 1) ws) rest' ≡ whole
wide_more ws i d w rest rest' found found' whole lt is f r e =
    let here : drop i ws ≡ w ∷ drop (suc i) ws = drop-cons ws i d lt ∙ ap (λ x. x ∷ drop (suc i) ws) (sym is) in
    let step : wide_arguments (drop i ws) rest ≡ first_wide w rest ++ wide_arguments (drop (suc i) ws) (behind_argument w rest) = ap (λ xs. wide_arguments xs rest) here ∙ next_wide w (drop (suc i) ws) rest in
    rw (add-one, f, r) (append_assoc found (first_wide w rest) (wide_arguments (drop (suc i) ws) (behind_argument w rest)) ∙ ap (λ xs. found ++ xs) (sym step) ∙ e)
