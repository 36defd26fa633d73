-- A typing is a flow: where a position is good its edges carry what they carry in a typing.
use Rattle.std.proofs.Common.{◌≡◌, ℕ, zero, suc, Bool, true, false, List, [], ◌∷◌, refl, sym, ap, subst}
use Rattle.std.specs.Prelude.{◌&&◌, not, map, Option, Some, None, length}
use Rattle.std.specs.List.{list_all}
use Rattle.dalvik_defs.specs.declared.forms.Form.{Form}
use Rattle.dalvik_defs.specs.declared.program.NamedBody.{NamedBody}
use Rattle.dalvik_defs.specs.declared.program.NamedClass.{NamedClass}
use Rattle.dalvik_defs.specs.declared.program.NamedMethod.{NamedMethod}
use Rattle.dalvik_defs.specs.declared.program.NamedProgram.{NamedProgram}
use Rattle.pass_defs.specs.Walks.{form_at}
use Rattle.pass_defs.specs.Registers.{Kinds}
use Rattle.pass_defs.specs.Demands.{is_allowed}
use Rattle.pass_defs.specs.Typed.{Table, state_at, each, at_state, arrives, edges, is_wrong, is_good, guarded, flows, IsTyping, IsFlow}

both_true : (x y : Bool) → x ≡ true → not y ≡ true → (x && not y) ≡ true
both_true true false h k = refl
both_true true true h k = k
both_true false y h k = h

left_true : (x y : Bool) → (x && y) ≡ true → x ≡ true
left_true true y h = refl
left_true false y h = h

right_true : (x y : Bool) → (x && y) ≡ true → y ≡ true
right_true true y h = h
right_true false true h = refl
right_true false false h = h

and_true : (x y : Bool) → x ≡ true → y ≡ true → (x && y) ≡ true
and_true true true h k = refl
and_true true false h k = k
and_true false y h k = h

-- a test that follows from three others, at every number below a bound
each_from : (n : ℕ) (f g h test : ℕ → Bool) → ((k : ℕ) → f k ≡ true → g k ≡ true → h k ≡ true → test k ≡ true) → each n f ≡ true → each n g ≡ true → each n h ≡ true → each n test ≡ true
each_from zero f g h test step x y z = refl
each_from (suc n) f g h test step x y z = and_true (each n test) (test n)
    (each_from n f g h test step (left_true (each n f) (f n) x) (left_true (each n g) (g n) y) (left_true (each n h) (h n) z))
    (step n (right_true (each n f) (f n) x) (right_true (each n g) (g n) y) (right_true (each n h) (h n) z))

kept_edges : (b : NamedBody) (es : List (ℕ × Kinds)) → map (guarded true b) es ≡ es
kept_edges b [] = refl
kept_edges b (e ∷ es) = ap (λ x. e ∷ x) (kept_edges b es)

good_edges : (b : NamedBody) (good : Bool) (es : List (ℕ × Kinds)) → good ≡ true → map (guarded good b) es ≡ es
good_edges b good es h = subst (λ g. map (guarded g b) es ≡ es) (sym h) (kept_edges b es)

module _ (p : NamedProgram) (c : NamedClass) (m : NamedMethod) (b : NamedBody) (t : Table) where
  flows_at : (n : ℕ) (o : Option Form) (s : Option Kinds) →
      elim o [ Some f ↦ elim s [ Some a ↦ is_allowed p c m a f | None ↦ true ] | None ↦ true ] ≡ true →
      elim o [ Some f ↦ elim s [ Some a ↦ not (is_wrong p c m a f) | None ↦ true ] | None ↦ true ] ≡ true →
      elim o [ Some f ↦ elim s [ Some a ↦ list_all (arrives p t) (edges p c b n f a) | None ↦ true ] | None ↦ true ] ≡ true →
      elim o [ Some f ↦ elim s [ Some a ↦ list_all (arrives p t) (flows p c m b n f a) | None ↦ true ] | None ↦ true ] ≡ true
  flows_at n (Some f) (Some a) x y z =
      let g : is_good p c m a f ≡ true = both_true (is_allowed p c m a f) (is_wrong p c m a f) x y in
      subst (λ es. list_all (arrives p t) es ≡ true) (sym (good_edges b (is_good p c m a f) (edges p c b n f a) g)) z
  flows_at n (Some f) None x y z = refl
  flows_at n None s x y z = refl

  pub typing_flows : IsTyping p c m b t → IsFlow p c m b t
  typing_flows h = record {
    long = h.long;
    entry = h.entry;
    edges = each_from (length b.forms)
        (at_state b t (λ f a. is_allowed p c m a f))
        (at_state b t (λ f a. not (is_wrong p c m a f)))
        (λ n. at_state b t (λ f a. list_all (arrives p t) (edges p c b n f a)) n)
        (λ n. at_state b t (λ f a. list_all (arrives p t) (flows p c m b n f a)) n)
        (λ n x y z. flows_at n (form_at b n) (state_at t n) x y z)
        h.reads h.right h.edges;
  }
