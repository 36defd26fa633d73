-- What is accepted of a caller, position by position.
use Rattle.std.proofs.Common.{◌≡◌, ℕ, zero, suc, ◌+◌, ◌<◌, ◌≤◌, ◌^◌, ◌-◌, min, Bool, true, false, if◌then◌else◌, List, [], ◌∷◌, ◌++◌, Option, Some, None, length, refl, ap, sym, ◌∙◌, subst, arith}
use Rattle.program_model.specs.Cells.{capped}
use Rattle.splice.specs.declared.callee.Callee.{Callee}
use Rattle.splice.specs.declared.spliced.Spliced.{Spliced}
use Rattle.inline_calls.specs.declared.site.Caller.{Caller}
use Rattle.inline_calls.specs.declared.caller.Inliner.{Inliner}
use Rattle.inline_calls.specs.declared.caller.Accepted.{Accepted}
use Rattle.inline_calls.specs.Accepting.{IsAsked, Weighs, Unasked, Refused, Agreed, chosen_by, Tries, Unsuited, Suited, HasTried, Untried, Tried, IsAccepted, GoesOn}
use Rattle.inline_calls.specs.Asked.{Row, is_agreed, agreed, agreed_count}
use Rattle.inline_calls.specs.Candidates.{IsCandidate, IsUnsuited, IsWith}
use Rattle.inline_calls.specs.Plans.{HasBegun}
use Rattle.inline_calls.specs.Rooms.{spliced_by, new_of, Judges}
use Rattle.inline_calls.proofs.Asks.{agreed-append}

-- ---- one ask

one_agreed : (row : Row) → is_agreed row ≡ true → agreed_count (row ∷ []) ≡ 1
one_agreed row e = let f : agreed row ≡ 1 = ap {B = ℕ} (λ b. if b then 1 else 0) e in omega (arith, f)

one_refused : (row : Row) → is_agreed row ≡ false → agreed_count (row ∷ []) ≡ 0
one_refused row e = let f : agreed row ≡ 0 = ap {B = ℕ} (λ b. if b then 1 else 0) e in omega (arith, f)

module _ (i : Inliner) (c : Caller) (cells n : ℕ) (y : Callee) (chosen : List (Option Callee)) where
  -- every adviser says yes
  pub weighs_yes : (s : Spliced) (agrees : Bool) → Judges i c cells chosen (Some s) → agrees ≡ true → (rows : List Row) → IsAsked i.known.program.now c n y agrees rows → Weighs i c cells n y chosen rows (Some s)
  weighs_yes s agrees j e rows a =
      subst (λ (o : List Row). Weighs i c cells n y chosen o (Some s)) (sym a.one)
      (subst (λ (t : Spliced). Weighs i c cells n y chosen (a.row ∷ []) (Some t)) (sym j.0) (Agreed a.row j.1 a.ask (sym a.agreed ∙ e)))

  -- some adviser says no
  pub weighs_no : (s : Spliced) (agrees : Bool) → Judges i c cells chosen (Some s) → agrees ≡ false → (rows : List Row) → IsAsked i.known.program.now c n y agrees rows → Weighs i c cells n y chosen rows None
  weighs_no s agrees j e rows a = subst (λ (o : List Row). Weighs i c cells n y chosen o None) (sym a.one) (Refused a.row j.1 a.ask (sym a.agreed ∙ e))

  none_weighed : (rows : List Row) → Weighs i c cells n y chosen rows None → agreed_count rows ≡ 0
  none_weighed _ (Unasked lacks) = refl
  none_weighed _ (Refused row room ask refused) = one_refused row refused

  some_weighed : (s : Spliced) (rows : List Row) → Weighs i c cells n y chosen rows (Some s) → (s ≡ spliced_by i c chosen) × (agreed_count rows ≡ 1)
  some_weighed _ _ (Agreed row room ask agrees) = (refl, one_agreed row agrees)

-- the same of lists and answers that are the same
pub with_by : (l old : List (Option Callee)) (n : ℕ) (y : Callee) (new : List (Option Callee)) → l ≡ old → IsWith l n y new → IsWith old n y new
with_by l old n y new e is = subst (λ (k : List (Option Callee)). IsWith k n y new) e is

pub weighed_by : (i : Inliner) (c : Caller) (cells n : ℕ) (y : Callee) (l new : List (Option Callee)) (s t : Option Spliced) (rows : List Row) → l ≡ new → s ≡ t → Weighs i c cells n y l rows s → Weighs i c cells n y new rows t
weighed_by i c cells n y l new s t rows e f w =
    subst (λ (o : Option Spliced). Weighs i c cells n y new rows o) f (subst (λ (k : List (Option Callee)). Weighs i c cells n y k rows s) e w)

-- ---- one position

new_some : (i : Inliner) (c : Caller) (n : ℕ) (chosen : List (Option Callee)) → length chosen ≡ n + 1 → new_of i c chosen ≡ Some (spliced_by i c chosen)
new_some i c n [] e = absurd (omega (arith, e))
new_some i c n (y ∷ ys) e = refl

more : (a b k r : ℕ) → b ≡ min (a + 1) (2 ^ 64 - 1) → a ≡ capped k → r ≡ 1 → b ≡ capped (k + r)
more a b k r e f one = omega arith

no_more : (a k r : ℕ) → a ≡ capped k → r ≡ 0 → a ≡ capped (k + r)
no_more a k r f none = omega arith

module _ (i : Inliner) (c : Caller) (cells n : ℕ) where
  pub stays : (a : Accepted) → IsUnsuited i.known c n → GoesOn i c cells n a a []
  stays a none = record { tries = Unsuited none; spliced = λ h. h; count = λ k e. no_more a.count k 0 e refl }

  pub stays_refused : (a : Accepted) (y : Callee) (new : List (Option Callee)) → IsCandidate i.known c n y → IsWith a.chosen.items n y new
      → (rows : List Row) → Weighs i c cells n y new rows None → GoesOn i c cells n a a rows
  stays_refused a y new is with rows w = record {
    tries = Suited y new rows None is with w;
    spliced = λ h. h;
    count = λ k e. no_more a.count k (agreed_count rows) e (none_weighed i c cells n y new rows w);
  }

  pub goes_on_with : (a b : Accepted) (y : Callee) (s : Spliced) → IsCandidate i.known c n y → IsWith a.chosen.items n y b.chosen.items → b.spliced ≡ Some s → b.count ≡ min (a.count + 1) (2 ^ 64 - 1)
      → (rows : List Row) → Weighs i c cells n y b.chosen.items rows (Some s) → GoesOn i c cells n a b rows
  goes_on_with a b y s is with some count rows w = record {
    tries = Suited y b.chosen.items rows (Some s) is with w;
    spliced = λ h. some ∙ ap (λ (t : Spliced). Some t) (some_weighed i c cells n y b.chosen.items s rows w).0 ∙ sym (new_some i c n b.chosen.items with.long);
    count = λ k e. more a.count b.count k (agreed_count rows) count e (some_weighed i c cells n y b.chosen.items s rows w).1;
  }

-- ---- all positions

pub none_accepted : (i : Inliner) (c : Caller) (cells : ℕ) (a : Accepted) → a.chosen.items ≡ [] → a.spliced ≡ None → a.count ≡ 0 → IsAccepted i c cells 0 a []
none_accepted i c cells a e s z = record {
  within = omega arith;
  tried = subst (λ (l : List (Option Callee)). HasTried i c cells 0 [] l) (sym e) Untried;
  spliced = s ∙ ap (new_of i c) (sym e);
  count = omega (arith, z);
}

pub next_accepted : (i : Inliner) (c : Caller) (cells n : ℕ) (a b : Accepted) → n < length c.body.now.insns → (rows more : List Row) → IsAccepted i c cells n a rows → GoesOn i c cells n a b more → IsAccepted i c cells (n + 1) b (rows ++ more)
next_accepted i c cells n a b lt rows more was on = record {
  within = omega (arith, lt);
  tried = Tried n rows more a.chosen.items b.chosen.items was.tried on.tries;
  spliced = on.spliced was.spliced;
  count = on.count (agreed_count rows) was.count ∙ ap capped (sym (agreed-append rows more));
}

-- memory did not suffice for the rest
pub has_begun : (i : Inliner) (c : Caller) (cells n : ℕ) (a : Accepted) (rows : List Row) → IsAccepted i c cells n a rows → HasBegun i c cells rows
has_begun i c cells n a rows is = record { count = n; within = is.within; chosen = a.chosen.items; tried = is.tried }

-- it did
pub all_accepted : (i : Inliner) (c : Caller) (cells n : ℕ) (a : Accepted) → length c.body.now.insns ≤ n → (rows : List Row) → IsAccepted i c cells n a rows → IsAccepted i c cells (length c.body.now.insns) a rows
all_accepted i c cells n a le rows is = subst (λ (k : ℕ). IsAccepted i c cells k a rows) (omega (arith, le, is.within)) is

-- ---- how many agree

module _ (i : Inliner) (c : Caller) (cells : ℕ) where
  weighed_empty : (n : ℕ) (y : Callee) (old new : List (Option Callee)) (rows : List Row) (s : Option Spliced) → IsWith old n y new → Weighs i c cells n y new rows s
      → chosen_by s old new ≡ [] → (old ≡ []) × (agreed_count rows ≡ 0)
  weighed_empty n y old new _ _ with (Unasked lacks) e = (e, refl)
  weighed_empty n y old new _ _ with (Refused row room ask refused) e = (e, one_refused row refused)
  weighed_empty n y old new _ _ with (Agreed row room ask agrees) e = absurd (omega (arith, with.long, ap length e))

  tries_empty : (n : ℕ) (old new : List (Option Callee)) (rows : List Row) → Tries i c cells n old rows new → new ≡ [] → (old ≡ []) × (agreed_count rows ≡ 0)
  tries_empty n old _ _ (Unsuited none) e = (e, refl)
  tries_empty n old _ _ (Suited y new rows s is with w) e = weighed_empty n y old new rows s with w e

  -- where none is chosen, none agreed
  pub tried_empty : (n : ℕ) (rows : List Row) (chosen : List (Option Callee)) → HasTried i c cells n rows chosen → chosen ≡ [] → agreed_count rows ≡ 0
  tried_empty _ _ _ Untried e = refl
  tried_empty _ _ _ (Tried n rows more old new was tries) e =
      let h : (old ≡ []) × (agreed_count more ≡ 0) = tries_empty n old new more tries e in
      omega (arith, agreed-append rows more, tried_empty n rows old was h.0, h.1)

  weighed_none : (n : ℕ) (y : Callee) (old new : List (Option Callee)) (rows : List Row) (s : Option Spliced) → Weighs i c cells n y new rows s → agreed_count rows ≡ 0 → chosen_by s old new ≡ old
  weighed_none n y old new _ _ (Unasked lacks) e = refl
  weighed_none n y old new _ _ (Refused row room ask refused) e = refl
  weighed_none n y old new _ _ (Agreed row room ask agrees) e = absurd (omega (arith, one_agreed row agrees, e))

  tries_none : (n : ℕ) (old new : List (Option Callee)) (rows : List Row) → Tries i c cells n old rows new → agreed_count rows ≡ 0 → new ≡ old
  tries_none n old _ _ (Unsuited none) e = refl
  tries_none n old _ _ (Suited y new rows s is with w) e = weighed_none n y old new rows s w e

  -- where none agreed, none is chosen
  pub tried_none : (n : ℕ) (rows : List Row) (chosen : List (Option Callee)) → HasTried i c cells n rows chosen → agreed_count rows ≡ 0 → chosen ≡ []
  tried_none _ _ _ Untried e = refl
  tried_none _ _ _ (Tried n rows more old new was tries) e =
      tries_none n old new more tries (omega (arith, agreed-append rows more, e)) ∙ tried_none n rows old was (omega (arith, agreed-append rows more, e))
