-- How many registers values of types take, by the types' letters.
use Rattle.std.proofs.Common.{◌≡◌, ℕ, zero, suc, ◌+◌, Bool, true, false, true≢false, nat_eq, List, [], ◌∷◌, map, Option, refl, sym, ap, ◌∙◌, arith}
use Rattle.std.specs.Prelude.{◌||◌, cond, if◌then◌else◌, sum_by, slice_get}
use Rattle.std.proofs.lemmas.List.Sums.{sum_by-cons}
use Rattle.class_defs.proofs.Positions.{number_of}
use Rattle.program_model.specs.MemberRules.{words_of}
use Rattle.program_model.specs.Texts.{string_text, type_text, text_or_none, first_unit, letter_of, is_wide as is_wide_letter}
use Rattle.program_model.specs.declared.pools.Proto.{Proto}
use Rattle.program_model.specs.declared.program.Program.{Program}
use Rattle.verify.specs.Descriptors.{brackets, without_brackets, shape_of_unit, class_named, plain_at, base_shape, shape_named, item_number, short, width_in}
use Rattle.verify.specs.Shapes.{is_wide}
use Rattle.verify.specs.Types.{shape_in}
use Rattle.verify.specs.declared.shapes.Shape.{Shape}
use Rattle.verify.specs.declared.shapes.Shape.TheVariants as shape

narrow : (b : Bool) (x y : Shape) → is_wide x ≡ false → is_wide y ≡ false → is_wide (cond b x y) ≡ false
narrow true x y e f = e
narrow false x y e f = f

passed : (b : Bool) (y : Shape) → b ≡ false → is_wide y ≡ false → is_wide (cond b shape.Wide y) ≡ false
passed true y e f = absurd (true≢false e)
passed false y e f = f

not_none : (n : ℕ) → nat_eq (suc n) 0 ≡ false
not_none n = by (nat_eq (suc n) 0) refl
  where
    by : (b : Bool) → nat_eq (suc n) 0 ≡ b → b ≡ false
    by true e = let q : suc n ≡ 0 = number_of (suc n) 0 e in absurd (omega (arith, q))
    by false e = refl

by_unit : (u : ℕ) (o : Option ℕ) (plain : Bool) → is_wide (shape_of_unit u o plain) ≡ is_wide_letter u
by_unit u o plain = by (nat_eq u 68) (nat_eq u 74) refl refl
  where
    by : (b d : Bool) → nat_eq u 68 ≡ b → nat_eq u 74 ≡ d → is_wide (shape_of_unit u o plain) ≡ is_wide_letter u
    by true d e f = let q : u ≡ 68 = number_of u 68 e in ap (λ v. is_wide (shape_of_unit v o plain)) q ∙ sym (ap is_wide_letter q)
    by false true e f = let q : u ≡ 74 = number_of u 74 f in ap (λ v. is_wide (shape_of_unit v o plain)) q ∙ sym (ap is_wide_letter q)
    by false false e f =
        narrow (nat_eq u 66) _ _ refl
        (narrow (nat_eq u 67) _ _ refl
        (passed (nat_eq u 68) _ e
        (narrow (nat_eq u 70) _ _ refl
        (narrow (nat_eq u 73) _ _ refl
        (passed (nat_eq u 74) _ f
        (narrow (nat_eq u 76) _ _ refl
        (narrow (nat_eq u 83) _ _ refl
        (narrow (nat_eq u 90) _ _ refl refl))))))))
        ∙ sym (ap (λ b. b || nat_eq u 68) f ∙ e)

by_text : (p : Program) (t : List ℕ) → is_wide (shape_named p t) ≡ is_wide_letter (first_unit t)
by_text p [] = refl
by_text p (u ∷ us) = by (nat_eq u 91) refl
  where
    by : (b : Bool) → nat_eq u 91 ≡ b → is_wide (shape_named p (u ∷ us)) ≡ is_wide_letter u
    by true e =
        ap (λ b. is_wide (cond (nat_eq (cond b (suc (brackets us)) 0) 0) (base_shape p (cond b (without_brackets us) (u ∷ us))) (shape.Array (short (cond b (suc (brackets us)) 0)) (item_number p (cond b (without_brackets us) (u ∷ us)))))) e
        ∙ ap (λ b. is_wide (cond b (base_shape p (without_brackets us)) (shape.Array (short (suc (brackets us))) (item_number p (without_brackets us))))) (not_none (brackets us))
        ∙ sym (ap is_wide_letter (number_of u 91 e))
    by false e =
        ap (λ b. is_wide (cond (nat_eq (cond b (suc (brackets us)) 0) 0) (base_shape p (cond b (without_brackets us) (u ∷ us))) (shape.Array (short (cond b (suc (brackets us)) 0)) (item_number p (cond b (without_brackets us) (u ∷ us)))))) e
        ∙ by_unit u (class_named p (u ∷ us)) (plain_at p (class_named p (u ∷ us)))

letter_is : (p : Program) (k : ℕ) → letter_of p k ≡ first_unit (type_text p k)
unfolding letter_of
letter_is p k = refl

text_is : (p : Program) (k : ℕ) → type_text p k ≡ text_or_none p (slice_get p.types k)
unfolding type_text
text_is p k = refl

at_type : (p : Program) (ss : List ℕ) (k : ℕ) → is_wide (shape_in (map (λ s. shape_named p (string_text p s)) ss) k) ≡ is_wide_letter (first_unit (text_or_none p (slice_get ss k)))
at_type p [] k = refl
at_type p (s ∷ ss) zero = by_text p (string_text p s)
at_type p (s ∷ ss) (suc k) = at_type p ss k

one_width : (p : Program) (shapes : List Shape) → shapes ≡ map (λ s. shape_named p (string_text p s)) p.types → (k : ℕ) → width_in shapes k ≡ words_of p k
one_width p shapes e k = ap (λ (l : List Shape). if is_wide (shape_in l k) then 2 else 1) e
    ∙ ap (λ b. if b then 2 else 1) (at_type p p.types k ∙ ap is_wide_letter (sym (letter_is p k ∙ ap first_unit (text_is p k))))

pub all_widths : (p : Program) (shapes : List Shape) → shapes ≡ map (λ s. shape_named p (string_text p s)) p.types → (ks : List ℕ) → sum_by (width_in shapes) ks ≡ sum_by (words_of p) ks
all_widths p shapes e [] = refl
all_widths p shapes e (k ∷ ks) =
    let a = sum_by-cons (width_in shapes) k ks in
    let b = sum_by-cons (words_of p) k ks in
    let c = one_width p shapes e k in
    let d = all_widths p shapes e ks in
    a ∙ ap (λ n. n + sum_by (width_in shapes) ks) c ∙ ap (λ n. words_of p k + n) d ∙ sym b

map_same : {X Y : Type 0} (f g : X → Y) (xs : List X) → ((x : X) → f x ≡ g x) → map f xs ≡ map g xs
map_same f g [] h = refl
map_same f g (x ∷ xs) h = ap (λ y. y ∷ map f xs) (h x) ∙ ap (λ ys. g x ∷ ys) (map_same f g xs h)

-- the words of all protos
pub proto_widths : (p : Program) (shapes slice : List Shape) (protos : List Proto) (ws : List ℕ) → shapes ≡ map (λ s. shape_named p (string_text p s)) p.types → slice ≡ shapes → protos ≡ p.protos
    → ws ≡ map (λ q. short (sum_by (width_in slice) q.parameters)) protos → ws ≡ map (λ q. short (sum_by (words_of p) q.parameters)) p.protos
proto_widths p shapes slice protos ws e same from made =
    made ∙ ap (λ (qs : List Proto). map (λ q. short (sum_by (width_in slice) q.parameters)) qs) from
    ∙ map_same (λ (q : Proto). short (sum_by (width_in slice) q.parameters)) (λ q. short (sum_by (words_of p) q.parameters)) p.protos (λ q. ap short (all_widths p slice (same ∙ e) q.parameters))
