-- Lists of classes in which each stands once.
use Rattle.std.proofs.Common.{◌≡◌, Bool, true, false, true≢false, not, List, [], ◌∷◌, refl, sym, ap, ◌∙◌}
use Rattle.std.specs.Prelude.{cond, filter}
use Rattle.dalvik_defs.specs.Names.{Text, text_eq}
use Rattle.dalvik_defs.specs.Initialised.{firsts}
use Rattle.dalvik_defs.proofs.Calm.{Each, text_sound}

-- ---- filters

past : (f : Text → Bool) (b : Bool) (x : Text) (xs : List Text) → filter f (cond b (x ∷ xs) xs) ≡ cond b (filter f (x ∷ xs)) (filter f xs)
past f true x xs = refl
past f false x xs = refl

either_way : (a b : Bool) (x : Text) (xs : List Text) → cond b (cond a (x ∷ xs) xs) xs ≡ cond a (cond b (x ∷ xs) xs) xs
either_way true true x xs = refl
either_way true false x xs = refl
either_way false true x xs = refl
either_way false false x xs = refl

-- two tests, in either order
swap : (f g : Text → Bool) (xs : List Text) → filter f (filter g xs) ≡ filter g (filter f xs)
swap f g [] = refl
swap f g (x ∷ xs) = past f (g x) x (filter g xs)
    ∙ ap (λ l. cond (g x) (cond (f x) (x ∷ l) l) l) (swap f g xs)
    ∙ either_way (f x) (g x) x (filter g (filter f xs))
    ∙ sym (past g (f x) x (filter f xs))

-- a test that all pass which pass another leaves nothing out behind it
weaker : (f g : Text → Bool) (xs : List Text) → ((u : Text) → f u ≡ true → g u ≡ true) → filter f (filter g xs) ≡ filter f xs
weaker f g [] h = refl
weaker f g (x ∷ xs) h = past f (g x) x (filter g xs) ∙ ap (λ l. cond (g x) (cond (f x) (x ∷ l) l) l) (weaker f g xs h) ∙ by (f x) refl (g x) refl
  where
    by : (a : Bool) → f x ≡ a → (b : Bool) → g x ≡ b → cond b (cond a (x ∷ filter f xs) (filter f xs)) (filter f xs) ≡ cond a (x ∷ filter f xs) (filter f xs)
    by true i true j = refl
    by true i false j = absurd (true≢false (sym (h x i) ∙ j))
    by false i true j = refl
    by false i false j = refl

-- ---- each once

pub filter_firsts : (f : Text → Bool) (xs : List Text) → filter f (firsts xs) ≡ firsts (filter f xs)
filter_firsts f [] = refl
filter_firsts f (x ∷ xs) = by (f x) refl (filter_firsts f xs)
  where
    other : Text → Bool
    other u = not (text_eq u x)

    differs : f x ≡ false → (u : Text) → f u ≡ true → (b : Bool) → text_eq u x ≡ b → not b ≡ true
    differs e u i true j = absurd (true≢false (sym i ∙ ap f (text_sound u x j) ∙ e))
    differs e u i false j = refl

    by : (b : Bool) → f x ≡ b → filter f (firsts xs) ≡ firsts (filter f xs) → cond b (x ∷ filter f (filter other (firsts xs))) (filter f (filter other (firsts xs))) ≡ firsts (cond b (x ∷ filter f xs) (filter f xs))
    by true e r = ap (λ l. x ∷ l) (swap f other (firsts xs) ∙ ap (filter other) r)
    by false e r = weaker f other (firsts xs) (λ u i. differs e u i (text_eq u x) refl) ∙ r

each_filter : (P : Text → Type 0) (f : Text → Bool) (xs : List Text) → Each P xs → Each P (filter f xs)
each_filter P f [] h = tt
each_filter P f (x ∷ xs) h = by (f x) (each_filter P f xs h.1)
  where
    by : (b : Bool) → Each P (filter f xs) → Each P (cond b (x ∷ filter f xs) (filter f xs))
    by true r = (h.0, r)
    by false r = r

pub each_firsts : (P : Text → Type 0) (xs : List Text) → Each P xs → Each P (firsts xs)
each_firsts P [] h = tt
each_firsts P (x ∷ xs) h = (h.0, each_filter P (λ u. not (text_eq u x)) (firsts xs) (each_firsts P xs h.1))
