-- All that the law of invariants asks of coverage, and whole runs.
use Rattle.std.proofs.Common.{◌≡◌, ℕ, true, List, [], ◌∷◌, Option, Some, None, ◌⊎◌, refl, sym, ap, ◌∙◌, subst}
use Rattle.std.specs.Prelude.{◌&&◌, slice_get, Contains}
use Rattle.std.specs.List.{list_all}
use Rattle.std.specs.Option.{option_and_then}
use Rattle.dalvik_defs.specs.Names.{Text, throwable_type, is_void}
use Rattle.dalvik_defs.specs.Face.{face_of, bodies_of}
use Rattle.dalvik_defs.specs.Find.{defined_method}
use Rattle.dalvik_defs.specs.Gives.{gets, gets_all, fits as given_fits}
use Rattle.dalvik_defs.specs.Items.{stored, item_of_type}
use Rattle.dalvik_defs.specs.Legal.{may_answer, on_fits}
use Rattle.dalvik_defs.specs.Moves.{got, field_value, key_of}
use Rattle.dalvik_defs.specs.Outer.{Outer}
use Rattle.dalvik_defs.specs.Show.{show, show_option}
use Rattle.dalvik_defs.specs.Shown.{Fit, fit_move}
use Rattle.dalvik_defs.specs.Happens.{Setting}
use Rattle.dalvik_defs.specs.State.{World, Classes, Ended, Instance, fresh, with_thing, opening, opening_world}
use Rattle.dalvik_defs.specs.Stack.{lands, back}
use Rattle.dalvik_defs.specs.Step.{after, setting_of}
use Rattle.dalvik_defs.specs.declared.names.MethodKey.{MethodKey}
use Rattle.dalvik_defs.specs.declared.state.Value.{Value}
use Rattle.dalvik_defs.specs.declared.state.Frame.{Frame}
use Rattle.dalvik_defs.specs.declared.script.Given.{Given}
use Rattle.dalvik_defs.specs.declared.script.Move.{Move}
use Rattle.dalvik_defs.specs.declared.program.NamedProgram.{NamedProgram}
use Rattle.dalvik_defs.specs.declared.tables.Floats.{Floats}
use Rattle.dalvik_defs.specs.declared.tables.Framework.{Framework}
use Rattle.pass_defs.specs.Analysis.{Analysis}
use Rattle.pass_defs.specs.Bare.{may_throw}
use Rattle.pass_defs.specs.Facts.{Facts}
use Rattle.pass_defs.specs.Live.{Family, IsClosedFamily, unconditional}
use Rattle.pass_defs.specs.Walks.{form_at}
use Rattle.run_laws.specs.Holds.{Each, Holds as HoldsBy}
use Rattle.run_laws.specs.Invariant.{Invariant, Above, Callee, Owing, both}
use Rattle.run_laws.proofs.Fine.{stored_there}
use Rattle.run_laws.proofs.Plain.{grown, keeps_plainly, got_grows}
use Rattle.run_laws.proofs.Stacked.{KeptOver, LandedOver, ShownOver, keeps_both}
use Rattle.run_laws.proofs.Invariants.{holds_after, opens_with}
use Rattle.run_facts.specs.Covered.{CoversTop, CoversWaiting, CoversWorld, CoversResult, covering}
use Rattle.removal_law.specs.Reach.{DefinesOnce, LeftAgrees, TellsProtos}
use Rattle.removal_law.proofs.Acyclic.{regular as upright}
use Rattle.removal_law.proofs.Fits.{fit_names_none}
use Rattle.removal_law.proofs.Lists.{contained}
use Rattle.removal_law.proofs.Protos.{told_apart, protos_told}
use Rattle.removal_law.proofs.Removal.{faces_agree}
use Rattle.removal_law.proofs.TypedCode.{typed_code}
use Rattle.run_laws.specs.Regular.{IsRegular}
use Rattle.run_laws.specs.TypedStates.{AskedOf, MaybeOf, TypedWaiting, TypedWorld, typed_states}
use Rattle.run_laws.proofs.Settled.{IsSettled, FindsRegularly}
use Rattle.run_laws.proofs.Registers.{and_left, and_right}
use Rattle.run_laws.proofs.Climbs.{class_in, none_some, some_one}
use Rattle.run_laws.proofs.Here.{setting}
use Rattle.run_laws.proofs.Runs.{keeps_typed, typed_opening, settled}
use Rattle.run_laws.proofs.Searches.{finds_regularly}
use Rattle.run_laws.proofs.Worlds.{waiting_later}
use Rattle.cover_law.specs.Coverable.{IsCoverable}
use Rattle.cover_law.proofs.Ready.{IsReady}
use Rattle.cover_law.proofs.Reaching.{reaches}
use Rattle.cover_law.proofs.Widths.{ranged_moves}
use Rattle.cover_law.specs.Known.{Always, KnownWorld, LiveThings, MaybeRanged, RangedMove, RangedWorld, ranged_states, live_states}
use Rattle.cover_law.proofs.Living.{made_things, live_method, keeps_live}
use Rattle.cover_law.proofs.RangedRuns.{keeps_ranged}
use Rattle.cover_law.proofs.Given.{gets_same, got_same, gets_ranged, got_ranged, gets_there, got_exposed, typed_exposed, own_field}
use Rattle.cover_law.proofs.Moving.{firsts_covered, initialiser_covered, enters_covered, makes_covered, field_covered, item_covered}
use Rattle.cover_law.proofs.Numbers.{stored_ranged}
use Rattle.cover_law.proofs.Returning.{lands_covered, answered, returned}
use Rattle.cover_law.proofs.Standing.{retried, waits_later}
use Rattle.cover_law.proofs.Stays.{below, covers}
use Rattle.cover_law.proofs.Steps.{steps_covered}
use Rattle.cover_law.proofs.Worlds.{SameFields, typed_fields, covers_over, same_with, same_then, same_show, same_option}

module _ {V : Type 0} (a : Analysis V) (p : NamedProgram) (o : Outer) (f : Framework) (floats : Floats) (facts : Facts V) (base : IsReady a p o f floats facts) (reg : IsSettled p) (finds : FindsRegularly p f) where
  abbrev i : Invariant
  i = below a p o f floats facts base reg

  abbrev j : Invariant
  j = covers a p o f floats facts base reg

  over : (w w1 : World) → TypedWorld p f w → CoversWorld a p o facts w → SameFields w w1 → CoversWorld a p o facts w1
  over w w1 tw cw s = covers_over p a o facts w w1 (typed_fields p f w tw) s cw

  -- a frame that waits, by its typing and by its facts, is at one form
  same_form : (w : World) (above : Above) (g : Frame) (t : TypedWaiting p f w above g) (h : CoversWaiting a p o facts w above g) → h.form ≡ t.form
  same_form w above g t h = some_one h.form t.form (sym h.has_form ∙ (ap (λ b. option_and_then (λ b. slice_get b.forms g.position) b) (ap (bodies_of p) t.frame.of ∙ t.frame.in_method.has_body) ∙ t.has_form))

  has_in : (w : World) (above : Above) (g : Frame) (t : TypedWaiting p f w above g) (h : CoversWaiting a p o facts w above g) → form_at t.frame.in_method.body g.position ≡ Some h.form
  has_in w above g t h = t.has_form ∙ ap Some (sym (same_form w above g t h))

  lands_at : (w : World) (cs : Classes) (above : Above) (g : Frame) (v : Value) (t : TypedWaiting p f w above g) → CoversWaiting a p o facts w above g
      → LandedOver (setting p o f floats reg) (bodies_of p) i j w cs (lands (face_of p f) (bodies_of p) w g v)
  lands_at w cs above g v t h = lands_covered a p o f floats facts base reg w cs g t.frame h.form (has_in w above g t h) h.stands (ap may_throw (same_form w above g t h) ∙ t.throws) v

  returns_at : (w : World) (cs : Classes) (k : MethodKey) (g : Frame) (v : Option Value) (t : TypedWaiting p f w (Callee k) g) → CoversWaiting a p o facts w (Callee k) g → KnownWorld p o w → MaybeOf p f w k.signature.result v → MaybeRanged v → CoversResult a p o facts w k v
      → CoversTop a p o facts w (back (bodies_of p) g v)
  returns_at w cs k g v t h kw typed ranged seen = returned a p o f floats facts base reg w cs g t.frame h.form (has_in w (Callee k) g t h) h.stands kw k h.awaits
      (subst (λ y. AskedOf p f y (Callee k)) (sym (same_form w (Callee k) g t h)) t.asks) h.past v ranged (λ u e. subst (CoversResult a p o facts w k) e seen) typed

  answers_at : (w : World) (cs : Classes) (u : Text) (y : Option Given) (g : Frame) → TypedWorld p f w → CoversWorld a p o facts w → TypedWaiting p f w (Owing u) g → CoversWaiting a p o facts w (Owing u) g → may_answer (face_of p f) o w u y ≡ true → KnownWorld p o (got w y).0 → MaybeRanged (got w y).1
      → CoversWorld a p o facts (got w y).0 × CoversTop a p o facts (got w y).0 (back (bodies_of p) g (got w y).1)
  answers_at w cs u y g tw cw t h l kw ranged = (over w w1 tw cw (got_same w y), answered a p o f floats facts base reg w1 cs g t1.frame h1.form (has_in w1 (Owing u) g t1 h1) h1.stands kw u h1.awaits h1.past (got w y).1 ranged (by y l))
    where
      w1 : World
      w1 = (got w y).0

      t1 : TypedWaiting p f w1 (Owing u) g
      t1 = waiting_later p f w w1 (Owing u) g (got_grows w y) t

      h1 : CoversWaiting a p o facts w1 (Owing u) g
      h1 = waits_later a p o f floats facts base reg w w1 (Owing u) g (got_grows w y) t h

      by : (y : Option Given) → may_answer (face_of p f) o w u y ≡ true → (got w y).1 ≡ None → is_void u ≡ true
      by None l e = l
      by (Some g) l e = none_some (gets w g).1 (sym e)

  shows_at : (w w1 : World) (cs : Classes) (kind : Text) (v : Option Value) → TypedWorld p f w → CoversWorld a p o facts w → SameFields w w1 → ShownOver (setting p o f floats reg) (bodies_of p) i j cs w1 kind v
  shows_at w w1 cs kind None tw cw s = tt
  shows_at w w1 cs kind (Some v) tw cw s = λ u. over w (show w1 kind v).0 tw cw (same_then w w1 (show w1 kind v).0 s (same_show w1 kind v))

  -- ---- all that the law asks

  known : (w : World) → RangedWorld w → Always p o (λ s. LiveThings p o s w) → KnownWorld p o w
  known w r m = record { ranged = r; made = made_things p o w.heap (λ s k. (m s k).1) }

  pub keeps_covered : KeptOver (setting p o f floats reg) (bodies_of p) i j
  keeps_covered = record {
    steps = λ w cs g h t. steps_covered a p o f floats facts base reg finds w cs g h.0.0.0 (known w h.0.0.1 h.0.1) h.1 t.0.0.0 (record { ranged = t.0.0.1; live = live_method p o g t.0.1 }) t.1;
    later = λ w w1 above g gr t h. waits_later a p o f floats facts base reg w w1 above g gr t.0.0 h;
    returns = λ w cs k g v h t r x. returns_at w cs k g v t.0.0.0 t.1 (known w h.0.0.1 h.0.1) r.0.0.0 r.0.0.1 r.1;
    retries = λ w cs u g h t x. retried a p o f floats facts base reg w u g t.1;
    lands = λ w cs above g v h t x. lands_at w cs above g v t.0.0.0 t.1;
    faults = λ w cs u e h. (over w (with_thing w (fresh u)) h.0.0.0 h.1 (same_with w (fresh u) (λ k. refl)), tt);
    statuses = λ w cs u s h c. h.1;
    firsts = λ u c. firsts_covered a p o f floats facts base reg finds u c.1;
    initialisers = λ w cs u k h c e. initialiser_covered a p o f floats facts base reg finds w cs u k c.1 e;
    shows_result = λ w cs k v h r. over w (show_option w k.signature.result v).0 h.0.0.0 h.1 (same_option w k.signature.result v);
    shows_thrown = λ w cs v h x. over w (show w throwable_type v).0 h.0.0.0 h.1 (same_show w throwable_type v);
    enters = λ w cs u n q gs d h m e l x. enters_covered a p o f floats facts base reg finds w cs u n q gs d h.0.0.0 h.1 e l (x.0.0, known (gets_all w gs).0 x.0.1 x.1);
    makes = λ w cs u h m l. makes_covered a p o f floats facts base reg finds w u h.0.0.0 h.1 l;
    answers = λ w cs u y g h m t l x z. answers_at w cs u y g h.0.0.0 h.1 t.0.0.0 t.1 l (known (got w y).0 x.0.1 x.1) (got_ranged w y m.0.0.1);
    throws = λ w cs g h m l. (over w (gets w g).0 h.0.0.0 h.1 (gets_same w g), tt);
    reads = λ w cs u n k place on h m e l. shows_at w (got w on).0 cs k (field_value (got w on).0 (key_of u n k) place (got w on).1) h.0.0.0 h.1 (got_same w on);
    writes = λ w cs u n k place on g h m e l.
        let w1 = (got w on).0 in let w2 = (gets w1 g).0 in let d = own_field p o f floats reg finds (key_of u n k) place e in
        let held = on_fits (face_of p f) o w w1 (key_of u n k) place on (got w on).1 in let fit = given_fits (face_of p f) o w1 w2 g (gets w1 g).1 k in
        field_covered a p o f floats facts base reg finds w w2 cs (key_of u n k) d.0 (got w on).1 (stored (item_of_type k) (gets w1 g).1) (same_then w w1 w2 (got_same w on) (gets_same w1 g)) h.0.0.0 h.1 d.1
        (and_left (o.fields (key_of u n k)) held (and_left (o.fields (key_of u n k) && held) fit l))
        (stored_there w2 (item_of_type k) (gets w1 g).1 (gets_there w1 g (got_exposed w on (typed_exposed p o f floats reg finds w h.0.0.0))))
        (stored_ranged (item_of_type k) (gets w1 g).1 (gets_ranged w1 g m.0.0.1.1));
    reads_items = λ w cs g n u vs v h m b e l. over w (show w u v).0 h.0.0.0 h.1 (same_show w u v);
    writes_items = λ w cs on g n u vs h m b e x l. item_covered a p o f floats facts base reg finds w cs g (gets w on).1 n u vs h.0.0.0 h.1 e;
  }

  covered_opening : CoversWorld a p o facts opening_world
  covered_opening = record { statics = λ k d v e i. none_some v i; instances = λ k d v n c fs e i l. none_some (Instance c fs) i }

  -- what is said of the framework's moves
  each_move : (xs : List Move) → list_all (fit_move p o) xs ≡ true → Each RangedMove xs → Each (both i j).move xs
  each_move [] e h = tt
  each_move (x ∷ xs) e h = ((((and_left (fit_move p o x) (list_all (fit_move p o) xs) e, h.0), tt), tt), each_move xs (and_right (fit_move p o x) (list_all (fit_move p o) xs) e) h.1)

  abbrev s : Setting
  s = setting p o f floats reg

  abbrev words : Invariant
  words = both (typed_states p f o) ranged_states

  -- where what is live is kept, each state that a run reaches is covered
  pub covered_always : KeptOver s (bodies_of p) words (live_states p o) → (script : List Move) → Fit p o f script → Each RangedMove script → (n : ℕ)
      → (after s (bodies_of p) (opening script) n ≡ Ended) ⊎ HoldsBy (both i j) (after s (bodies_of p) (opening script) n)
  covered_always live script fit ranged n =
      let first = keeps_both s (bodies_of p) (typed_states p f o) ranged_states (keeps_typed p o f floats reg finds) (keeps_ranged a p o f floats facts base reg finds) in
      let second = keeps_both s (bodies_of p) words (live_states p o) first live in
      let keep = keeps_plainly s (bodies_of p) (both i j) (keeps_both s (bodies_of p) i j second keeps_covered) in
      holds_after s (bodies_of p) (grown s (bodies_of p) (both i j)) keep n (opening script)
      (opens_with s (bodies_of p) (grown s (bodies_of p) (both i j)) keep script (((typed_opening p o f floats reg finds, record { statics = λ k v e. none_some v e; things = tt }), λ s k. (tt, tt)), covered_opening) (each_move script fit.values ranged))

-- no class defines two methods of one name and signature
once : (p : NamedProgram) → IsRegular p → DefinesOnce p
once p reg t c m x e i j n g = some_one m x (sym (reg.methods c m inside (contained m c.methods i))
    ∙ (ap (λ y. defined_method p (record { class = c.name; name = y; signature = m.signature })) n ∙ ap (λ y. defined_method p (record { class = c.name; name = x.name; signature = y })) g)
    ∙ reg.methods c x inside (contained x c.methods j))
  where
    inside : Contains p.classes c
    inside = class_in p t c e

module _ {V : Type 0} (a : Analysis V) (p : NamedProgram) (o : Outer) (f : Framework) (floats : Floats) (facts : Facts V) (script : List Move) (base : IsCoverable a p o f floats facts) (fit : Fit p o f script) where
  told : TellsProtos p
  told = protos_told p base.tabled.described

  -- what is left by each closed family answers alike
  agrees : (s : Family) → IsClosedFamily p o unconditional s → LeftAgrees p o s f
  agrees s closed = faces_agree p o unconditional s closed (upright p base.tabled.acyclic base.tabled.regular.class_types)
      (typed_code p base.tabled.regular.typed (told_apart p base.tabled.described (once p base.tabled.regular)) told) base.tabled.table f script fit

  reg : IsSettled p
  reg = settled p o f script base.tabled.regular fit

  ready : IsReady a p o f floats facts
  ready = record {
    regular = base.tabled.regular;
    places = base.tabled.places;
    formed = base.tabled.formed;
    firsts = base.tabled.firsts;
    reaches = reaches p o f floats reg (finds_regularly p f reg) (upright p base.tabled.acyclic base.tabled.regular.class_types) (fit_names_none p o f script fit) told base.tabled.table;
    makes = base.tabled.makes;
    sound = base.sound;
    closed = base.tabled.closed;
  }

-- And for a framework and a script that fit the program.
pub covered_regular : {V : Type 0} (a : Analysis V) (p : NamedProgram) (o : Outer) (f : Framework) (floats : Floats) (facts : Facts V) (script : List Move) (n : ℕ) → IsCoverable a p o f floats facts → Fit p o f script
    → (after (setting_of p o f floats) (bodies_of p) (opening script) n ≡ Ended) ⊎ HoldsBy (both (both (both (typed_states p f o) ranged_states) (live_states p o)) (covering a p o facts)) (after (setting_of p o f floats) (bodies_of p) (opening script) n)
covered_regular a p o f floats facts script n base fit = let known = reg a p o f floats facts script base fit in
    covered_always a p o f floats facts (ready a p o f floats facts script base fit) known (finds_regularly p f known) (keeps_live p o f floats (agrees a p o f floats facts script base fit)) script fit (ranged_moves script fit.ranged) n
