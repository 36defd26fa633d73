-- A body with instructions that are no longer lays out.
use Rattle.std.proofs.Common.{◌≡◌, ◌⊎◌, inl, inr, ℕ, suc, ◌≤◌, false, List, [], ◌∷◌, length, map, Option, Some, None, refl, sym, ap, ◌∙◌, subst, arith}
use Rattle.std.specs.Prelude.{Contains, pos}
use Rattle.std.specs.Option.{option_map}
use Rattle.insn_set.specs.Spelling.{units_of}
use Rattle.insn_set.specs.declared.form.Insn.{Insn}
use Rattle.program_model.specs.declared.body.Handler.{Handler}
use Rattle.program_model.specs.declared.body.Region.{Region}
use Rattle.program_model.specs.declared.body.Body.{Body}
use Rattle.relax.specs.declared.step.Step.TheVariants.{Fixed, Jump}
use Rattle.relax.specs.Sizes.{start, need, RoomFrom}
use Rattle.relax.specs.Far.{spans_far, is_far, first_far}
use Rattle.relax.proofs.Least.{need_cap}
use Rattle.dex_defs.specs.LaysOut.{step_of, LaysOutBody}
use Rattle.layout_law.specs.Shorter.{condition_of, IsNoLonger, Same, Plain, Branch, Taken, Switched, AreNoLonger, IsShortened}
use Rattle.layout_law.proofs.Least.{least_under}
use Rattle.layout_law.proofs.Nearer.{Shrinks, below_shrinks, reaches}
use Rattle.layout_law.proofs.Catches.{handler_with, region_with}
use Rattle.layout_law.proofs.Steps.{near_goto, fixed_step, least_need, two_units, goes_far, far_by, none_far, none_further}
use Rattle.layout_law.proofs.Bodies.{RegionsMove, moved_body}

-- ---- room

-- where an instruction has room, so has one that is no longer
fits_still : (ss : List ℕ) (n : ℕ) (f g : Insn) → IsNoLonger n f g → is_far ss n f ≡ false → need ss n (step_of g) ≤ need ss n (step_of f)
fits_still ss n f _ Same e = omega arith
fits_still ss n f _ (Plain g p c u) e =
    let s : need ss n (step_of g) ≡ need ss n (Fixed (units_of g (pos 0))) = ap (need ss n) (fixed_step g p) in
    omega (arith, s, u, least_need ss n f)
fits_still ss n f _ (Branch g t c d) e =
    let s : need ss n (step_of g) ≡ 2 = ap (need ss n) (two_units g t d) in
    let o : need ss n (step_of f) ≡ 2 = ap (need ss n) (two_units f t c) in
    omega (arith, s, o)
fits_still ss n f _ (Taken t c d) e =
    let o : need ss n (step_of f) ≡ 2 = ap (need ss n) (two_units f t c) in
    let near : spans_far (start ss n) (start ss t) ≡ false = ap (goes_far ss n) (sym c) ∙ sym (far_by ss n f) ∙ e in
    omega (arith, o, near_goto ss n t d near)
fits_still ss n f _ (Switched t u) e = omega (arith, u, need_cap ss n (Jump t), least_need ss n f)

room_still : (ss : List ℕ) (n : ℕ) (fs gs : List Insn) (rest : List ℕ) → AreNoLonger n fs gs → first_far ss n fs ≡ None → RoomFrom ss n (map step_of fs) rest → RoomFrom ss n (map step_of gs) rest
room_still ss n [] [] rest h e r = r
room_still ss n [] (g ∷ gs) rest h e r = absurd h
room_still ss n (f ∷ fs) [] rest h e r = absurd h
room_still ss n (f ∷ fs) (g ∷ gs) [] h e r = absurd r
room_still ss n (f ∷ fs) (g ∷ gs) (s ∷ rest) h e r =
    let o = none_far ss n f fs e in
    let x = fits_still ss n f g h.0 o.0 in
    (omega (arith, x, r.0), room_still ss (suc n) fs gs rest h.1 o.1 r.1)

-- ---- branches

near_still : (ss ts : List ℕ) → Shrinks (λ n. n) ss ts → (n : ℕ) (f g : Insn) → IsNoLonger n f g → is_far ss n f ≡ false → is_far ts n g ≡ false
near_still ss ts s n f g h e = by (condition_of g) refl (targets f g h)
  where
    -- it has the target of the other, or none
    targets : (f g : Insn) → IsNoLonger n f g → (condition_of g ≡ None) ⊎ (condition_of g ≡ condition_of f)
    targets f _ Same = inr refl
    targets f _ (Plain g p c u) = inl c
    targets f _ (Branch g t c d) = inr (d ∙ sym c)
    targets f _ (Taken t c d) = inl refl
    targets f _ (Switched t u) = inl refl

    same : (o : Option ℕ) → goes_far ss n o ≡ false → goes_far ts n o ≡ false
    same None d = refl
    same (Some t) d = reaches (λ n. n) ss ts s n t d

    by : (o : Option ℕ) → condition_of g ≡ o → (condition_of g ≡ None) ⊎ (condition_of g ≡ condition_of f) → is_far ts n g ≡ false
    by o d (inl c) = far_by ts n g ∙ ap (goes_far ts n) c
    by o d (inr c) = far_by ts n g ∙ same (condition_of g) (ap (goes_far ss n) c ∙ sym (far_by ss n f) ∙ e)

none_far_still : (ss ts : List ℕ) → Shrinks (λ n. n) ss ts → (n : ℕ) (fs gs : List Insn) → AreNoLonger n fs gs → first_far ss n fs ≡ None → first_far ts n gs ≡ None
none_far_still ss ts s n [] [] h e = refl
none_far_still ss ts s n [] (g ∷ gs) h e = absurd h
none_far_still ss ts s n (f ∷ fs) [] h e = absurd h
none_far_still ss ts s n (f ∷ fs) (g ∷ gs) h e =
    let o = none_far ss n f fs e in
    none_further ts n g gs (near_still ss ts s n f g h.0 o.0) (none_far_still ss ts s (suc n) fs gs h.1 o.1)

-- ---- regions

handlers_same : (hs : List Handler) → map (handler_with (λ n. n) (λ n. n)) hs ≡ hs
handlers_same [] = refl
handlers_same (h ∷ hs) = ap (λ t. h ∷ t) (handlers_same hs)

rest_same : (o : Option ℕ) → option_map (λ n. n) o ≡ o
rest_same None = refl
rest_same (Some n) = refl

region_same : (r : Region) → r ≡ region_with (λ n. n) (λ n. n) r
region_same r = sym (ap (λ hs. record { first = r.first; end = r.end; handlers = hs; rest = option_map (λ n. n) r.rest }) (handlers_same r.handlers)
    ∙ ap (λ o. record { first = r.first; end = r.end; handlers = r.handlers; rest = o }) (rest_same r.rest))

regions_same : (b d : Body) → d.regions ≡ b.regions → RegionsMove (λ n. n) (λ n. n) b d
regions_same b d e q i = (q, subst (λ rs. Contains rs q) e i, region_same q)

-- with other numbers of types, none of them higher
pub shortened_with : (kind : ℕ → ℕ) → ((k : ℕ) → kind k ≤ k) → (b d : Body) → AreNoLonger 0 b.insns d.insns → length d.regions ≤ length b.regions → RegionsMove (λ n. n) kind b d → LaysOutBody b → LaysOutBody d
shortened_with kind lower b d h few come l =
    let t = least_under (map step_of d.insns) l.sizes (room_still l.sizes 0 b.insns d.insns l.sizes h l.branches l.least.room) in
    let s = below_shrinks l.sizes t.0 t.2 in
    moved_body (λ n. n) kind lower b d l t.0 t.1 s (none_far_still l.sizes t.0 s 0 b.insns d.insns h l.branches) few come

pub shortened : (b d : Body) → IsShortened b d → LaysOutBody b → LaysOutBody d
shortened b d h l =
    let few : length d.regions ≡ length b.regions = ap length h.regions in
    shortened_with (λ k. k) (λ k. omega arith) b d h.insns (omega (arith, few)) (regions_same b d h.regions) l
