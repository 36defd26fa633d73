-- What shows the same: each program shows the same as itself, and showing the same composes.
use Rattle.std.proofs.Common.{◌≡◌, List, [], ◌∷◌, ◌++◌, Option, Some, None, Bool, true, false, true≢false, not, ◌&&◌, ◌||◌, refl, sym, ap, ◌∙◌, append_assoc, append-nil}
use Rattle.std.specs.List.{list_any, list_all}
use Rattle.dalvik_defs.specs.Names.{Text, base_of}
use Rattle.dalvik_defs.specs.Under.{defines}
use Rattle.dalvik_defs.specs.Outer.{Outer}
use Rattle.dalvik_defs.specs.Step.{shows}
use Rattle.dalvik_defs.specs.Shown.{named_by, reserved, fit_given, fit_option, fit_move, Fit, IsPrefixOf, SameShown}
use Rattle.dalvik_defs.specs.declared.script.Given.{Given}
use Rattle.dalvik_defs.specs.declared.script.Given.TheVariants as given
use Rattle.dalvik_defs.specs.declared.script.Move.{Move}
use Rattle.dalvik_defs.specs.declared.script.Move.TheVariants as move
use Rattle.dalvik_defs.specs.declared.events.Event.{Event}
use Rattle.dalvik_defs.specs.declared.program.NamedProgram.{NamedProgram}
use Rattle.dalvik_defs.specs.declared.tables.Framework.{Framework}

-- ---- lists of events

pub prefix_refl : (xs : List Event) → IsPrefixOf xs xs
prefix_refl xs = ([], append-nil xs)

pub prefix_on : (xs ys zs : List Event) → IsPrefixOf xs ys → IsPrefixOf ys zs → IsPrefixOf xs zs
prefix_on xs ys zs a b = (a.0 ++ b.0, sym (append_assoc xs a.0 b.0) ∙ ap (λ l. l ++ b.0) a.1 ∙ b.1)

pub prefix_behind : (xs ys zs : List Event) → IsPrefixOf ys zs → IsPrefixOf (xs ++ ys) (xs ++ zs)
prefix_behind xs ys zs a = (a.0, append_assoc xs ys a.0 ∙ ap (λ l. xs ++ l) a.1)

-- ---- tests

pub or_right : (a b : Bool) → b ≡ true → (a || b) ≡ true
or_right true b e = refl
or_right false b e = e

pub or_more : (a a' b b' : Bool) → (a ≡ true → b ≡ true) → (a' ≡ true → b' ≡ true) → (a || a') ≡ true → (b || b') ≡ true
or_more true a' b b' h k e = ap (λ x. x || b') (h refl)
or_more false a' b b' h k e = or_right b b' (k e)

pub and_more : (a a' b b' : Bool) → (a ≡ true → b ≡ true) → (a' ≡ true → b' ≡ true) → (a && a') ≡ true → (b && b') ≡ true
and_more true a' b b' h k e = ap (λ x. x && b') (h refl) ∙ k e
and_more false a' b b' h k e = absurd (true≢false (sym e))

not_less : (a b : Bool) → (a ≡ true → b ≡ true) → not b ≡ true → not a ≡ true
not_less true b h e = sym (ap not (h refl)) ∙ e
not_less false b h e = refl

false_less : (a b : Bool) → (a ≡ true → b ≡ true) → b ≡ false → a ≡ false
false_less true b h e = sym (h refl) ∙ e
false_less false b h e = refl

any_more : {A : Type 0} (f g : A → Bool) → ((x : A) → f x ≡ true → g x ≡ true) → (xs : List A) → list_any f xs ≡ true → list_any g xs ≡ true
any_more f g h [] e = e
any_more f g h (x ∷ xs) e = or_more (f x) (list_any f xs) (g x) (list_any g xs) (h x) (any_more f g h xs) e

pub all_more : {A : Type 0} (f g : A → Bool) → ((x : A) → f x ≡ true → g x ≡ true) → (xs : List A) → list_all f xs ≡ true → list_all g xs ≡ true
all_more f g h [] e = e
all_more f g h (x ∷ xs) e = and_more (f x) (list_all f xs) (g x) (list_all g xs) (h x) (all_more f g h xs) e

-- ---- what fits a program fits one that defines no more

module _ (p q : NamedProgram) (o : Outer) (less : (t : Text) → defines q t ≡ true → defines p t ≡ true) where
  given_fits : (g : Given) → fit_given p o g ≡ true → fit_given q o g ≡ true
  given_fits given.Null e = e
  given_fits (given.Word n) e = e
  given_fits (given.Wide n) e = e
  given_fits (given.Exposed n) e = e
  given_fits (given.New kind) e = or_more (not (defines p (base_of kind))) (o.classes (base_of kind)) (not (defines q (base_of kind))) (o.classes (base_of kind)) (not_less (defines q (base_of kind)) (defines p (base_of kind)) (less (base_of kind))) (λ x. x) e
  given_fits (given.Array item size) e = or_more (not (defines p (base_of item))) (o.classes (base_of item)) (not (defines q (base_of item))) (o.classes (base_of item)) (not_less (defines q (base_of item)) (defines p (base_of item)) (less (base_of item))) (λ x. x) e
  given_fits (given.Literal t) e = e
  given_fits (given.Class t) e = e

  option_fits : (g : Option Given) → fit_option p o g ≡ true → fit_option q o g ≡ true
  option_fits None e = e
  option_fits (Some g) e = given_fits g e

  move_fits : (m : Move) → fit_move p o m ≡ true → fit_move q o m ≡ true
  move_fits (move.Enter c n k gs) e = all_more (fit_given p o) (fit_given q o) given_fits gs e
  move_fits (move.Make c) e = e
  move_fits (move.Return g) e = option_fits g e
  move_fits (move.Throw g) e = given_fits g e
  move_fits (move.Get c n k on) e = option_fits on e
  move_fits (move.Put c n k on g) e = and_more (fit_option p o on) (fit_given p o g) (fit_option q o on) (fit_given q o g) (option_fits on) (given_fits g) e
  move_fits (move.ArrayGet on n) e = given_fits on e
  move_fits (move.ArrayPut on n g) e = and_more (fit_given p o on) (fit_given p o g) (fit_given q o on) (fit_given q o g) (given_fits on) (given_fits g) e
  move_fits (move.ArrayLength on) e = given_fits on e

  pub fits_less : (f : Framework) (script : List Move) → Fit p o f script → Fit q o f script
  fits_less f script h = record {
    rows = all_more (λ r. not (list_any (defines p) (named_by r))) (λ r. not (list_any (defines q) (named_by r)))
        (λ r. not_less (list_any (defines q) (named_by r)) (list_any (defines p) (named_by r)) (any_more (defines q) (defines p) less (named_by r))) f.rows h.rows;
    classes = false_less (list_any (defines q) reserved) (list_any (defines p) reserved) (any_more (defines q) (defines p) less reserved) h.classes;
    values = all_more (fit_move p o) (fit_move q o) move_fits script h.values;
    ranged = h.ranged;
  }

-- ---- showing the same

pub same_shown_refl : (p : NamedProgram) (o : Outer) → SameShown p p o
same_shown_refl p o = record {
  there = λ f a script n h. (n, prefix_refl (shows p o f a script n));
  back = λ f a script n h. (n, prefix_refl (shows p o f a script n));
}

-- showing the same composes, where the second program defines no class that the first doesn't
pub same_shown_on : (p q r : NamedProgram) (o : Outer) → ((t : Text) → defines q t ≡ true → defines p t ≡ true) → SameShown p q o → SameShown q r o → SameShown p r o
same_shown_on p q r o less a b = record {
  there = λ f z script n h. let m = a.there f z script n h in let k = b.there f z script m.0 (fits_less p q o less f script h) in (k.0, prefix_on _ _ _ m.1 k.1);
  back = λ f z script n h. let m = b.back f z script n (fits_less p q o less f script h) in let k = a.back f z script m.0 h in (k.0, prefix_on _ _ _ m.1 k.1);
}
