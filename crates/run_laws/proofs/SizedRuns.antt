-- In every state that a run reaches a frame has a body, and as many registers as it: the second invariant over the first.
use Rattle.std.proofs.Common.{◌≡◌, ℕ, ◌+◌, ◌-◌, List, [], ◌∷◌, Option, Some, None, ◌⊎◌, refl, ap, ap₂, ◌∙◌}
use Rattle.std.specs.Prelude.{length, replicate}
use Rattle.std.specs.Option.{option_map, option_and_then}
use Rattle.std.proofs.lemmas.List.{length-append, length-replicate}
use Rattle.dalvik_defs.specs.Names.{Text}
use Rattle.dalvik_defs.specs.Face.{Bodies}
use Rattle.dalvik_defs.specs.State.{World, Classes, Ended, kind_of, opening}
use Rattle.dalvik_defs.specs.declared.state.Value.{Value}
use Rattle.dalvik_defs.specs.declared.state.Value.TheVariants.{Word}
use Rattle.dalvik_defs.specs.declared.state.Frame.{Frame}
use Rattle.dalvik_defs.specs.declared.names.MethodKey.{MethodKey}
use Rattle.dalvik_defs.specs.declared.program.NamedBody.{NamedBody}
use Rattle.dalvik_defs.specs.declared.script.Move.{Move}
use Rattle.dalvik_defs.specs.Effect.{go}
use Rattle.dalvik_defs.specs.Outcome.{Outcome, Stays, Starts, Enters, Leaves, Ends, Raises, Halts, need_of}
use Rattle.dalvik_defs.specs.Stack.{entry_frame, back, handler_at, lands}
use Rattle.dalvik_defs.specs.Happens.{Setting, outcome_at}
use Rattle.dalvik_defs.specs.Gives.{gets_all, spread}
use Rattle.dalvik_defs.specs.Moves.{got, field_value, with_field, with_item, key_of}
use Rattle.dalvik_defs.specs.Items.{stored, item_of_type}
use Rattle.dalvik_defs.specs.Step.{after}
use Rattle.dalvik_defs.specs.Gives.{gets}
use Rattle.run_laws.specs.Invariant.{both}
use Rattle.run_laws.specs.Holds.{Each, Holds}
use Rattle.run_laws.specs.Fine.{fine_states}
use Rattle.run_laws.specs.Sized.{IsSized, sized_states}
use Rattle.run_laws.proofs.Growing.{OutcomeGrows, step_grows, back_method}
use Rattle.run_laws.proofs.Invariants.{holds_after, opens_with}
use Rattle.run_laws.proofs.Plain.{grown, keeps_plainly}
use Rattle.run_laws.proofs.Stacked.{EnteredOver, LandedOver, LeadsOver, ShownOver, WrittenOver, KeptOver, keeps_both}
use Rattle.run_laws.proofs.FineFirsts.{firsts_there}
use Rattle.run_laws.proofs.FineRuns.{fine_kept, fine_opening}
use Rattle.run_laws.proofs.Sizes.{back_length, OutcomeSized, step_sized}

-- a frame of the same method with as many registers
sized_by : (find : Bodies) (f g : Frame) → g.method ≡ f.method → length g.registers ≡ length f.registers → IsSized find f → IsSized find g
sized_by find f g e n h = record { body = h.body; found = ap find e ∙ h.found; registers = n ∙ h.registers }

back_sized : (find : Bodies) (f : Frame) (v : Option Value) → IsSized find f → IsSized find (back find f v)
back_sized find f v h = sized_by find f (back find f v) (back_method find f v) (back_length find f v) h

module _ (s : Setting) (find : Bodies) where
  entered : (w : World) (c : Classes) (k : MethodKey) (vs : List Value) (o : Option NamedBody) → find k ≡ o → EnteredOver s find fine_states (sized_states find) w c k vs o
  entered w c k vs None e = tt
  entered w c k vs (Some b) e = λ n t. record {
    body = b;
    found = e;
    registers = length-append (replicate (b.registers - b.ins) (Word 0)) vs ∙ ap₂ (λ x y. x + y) (length-replicate (b.registers - b.ins) (Word 0)) n;
  }

  landed : (w : World) (c : Classes) (f : Frame) (v : Value) (o : Option ℕ) → IsSized find f → LandedOver s find fine_states (sized_states find) w c (option_map (λ at. record (go f at) { caught = v }) o)
  landed w c f v None h = tt
  landed w c f v (Some at) h = λ t. record { body = h.body; found = h.found; registers = h.registers }

  lands_sized : (w : World) (c : Classes) (f : Frame) (v : Value) → IsSized find f → LandedOver s find fine_states (sized_states find) w c (lands s.face find w f v)
  lands_sized w c f v h = landed w c f v (option_and_then (handler_at (s.face.under (kind_of w v)) f.position) (find f.method)) h

  leads : (w : World) (c : Classes) (f : Frame) (x : Outcome) → IsSized find f → OutcomeGrows w f x → OutcomeSized w f x → LeadsOver s find fine_states (sized_states find) w c f x
  leads w c f (Stays w1 f1 e) h g n = λ o t. (tt, sized_by find f f1 g.1 n h)
  leads w c f (Starts t) h g n = λ o. (tt, h)
  leads w c f (Enters k vs) h g n = λ o. (h, entered w c k vs (find k) refl)
  leads w c f (Leaves w1 owes e) h g n = λ o t. (tt, h)
  leads w c f (Ends v) h g n = λ o. tt
  leads w c f (Raises w1 v) h g n = λ o t. (tt, tt, lands_sized w1 c f v h)
  leads w c f Halts h g n = tt

  shown : (c : Classes) (w : World) (kind : Text) (o : Option Value) → ShownOver s find fine_states (sized_states find) c w kind o
  shown c w kind None = tt
  shown c w kind (Some v) = λ h. tt

  written : (c : Classes) (o : Option World) → WrittenOver s find fine_states (sized_states find) c o
  written c None = tt
  written c (Some w) = λ h. tt

  each_class : (ts : List Text) → Each (λ t. Unit {0}) ts
  each_class [] = tt
  each_class (t ∷ ts) = (tt, each_class ts)

  pub sized_kept : KeptOver s find fine_states (sized_states find)
  sized_kept = record {
    steps = λ w c f g t. leads w c f (outcome_at s find (need_of s.face c) w f) t.1 (step_grows s find (need_of s.face c) w f) (step_sized w f s find (need_of s.face c));
    later = λ w w1 a f g i h. h;
    returns = λ w c k f v g h r t. back_sized find f v h.1;
    retries = λ w c t f g h x. h.1;
    lands = λ w c a f v g h x. lands_sized w c f v h.1;
    faults = λ w c t e g. (tt, tt);
    statuses = λ w c t x g k. tt;
    firsts = λ t k. each_class (s.face.first t);
    initialisers = λ w c t k g x e. entered w c k [] (find k) refl;
    shows_result = λ w c k v g r. tt;
    shows_thrown = λ w c v g x. tt;
    enters = λ w c t n q gs f g m e l o. (tt, (λ z. tt), entered (gets_all w gs).0 c f.key (spread (gets_all w gs).1) (find f.key) refl);
    makes = λ w c t g m l. (tt, tt);
    answers = λ w c kind x f g m ws l o t. (tt, back_sized find f (got w x).1 ws.1);
    throws = λ w c x g m l. (tt, tt);
    reads = λ w c t n k place on g m e l. shown c (got w on).0 k (field_value (got w on).0 (key_of t n k) place (got w on).1);
    writes = λ w c t n k place on x g m e l. written c (with_field (gets (got w on).0 x).0 (key_of t n k) (got w on).1 (stored (item_of_type k) (gets (got w on).0 x).1));
    reads_items = λ w c x n kind vs v g m b e j. tt;
    writes_items = λ w c on x n kind vs g m b e y l. written c (with_item (gets w x).0 (gets w on).1 kind vs n (gets w x).1);
  }

each_move : (xs : List Move) → Each (λ x. Unit {0} × Unit {0}) xs
each_move [] = tt
each_move (x ∷ xs) = ((tt, tt), each_move xs)

-- Whatever the setting, the bodies and the script: in each state that a run reaches, unless it has ended, both hold.
pub every_run_is_sized : (s : Setting) (find : Bodies) (script : List Move) (n : ℕ) → (after s find (opening script) n ≡ Ended) ⊎ Holds (both fine_states (sized_states find)) (after s find (opening script) n)
every_run_is_sized s find script n =
    let i = both fine_states (sized_states find) in
    let keep = keeps_plainly s find i (keeps_both s find fine_states (sized_states find) (fine_kept s find firsts_there) (sized_kept s find)) in
    holds_after s find (grown s find i) keep n (opening script) (opens_with s find (grown s find i) keep script (fine_opening, tt) (each_move script))
