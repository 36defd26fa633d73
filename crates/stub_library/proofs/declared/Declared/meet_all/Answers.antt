use Rattle.std.proofs.Common.{◌∙◌, inl, refl, sym, ap, subst, [], ◌∷◌, ◌++◌, arith}
use Rattle.std.specs.List.{flat_map, list_all, list_any}
use Rattle.stub_library.specs.Shut.{above_of}
use Rattle.stub_library.specs.Lists.{In}
use Rattle.stub_library.specs.Listing.{same_text}
use Rattle.stub_library.specs.Meeting.{Adds, Meets, is_seen, texts_of, local_clear}
use Rattle.stub_library.proofs.Levels.{seen_first}
use Rattle.stub_library.proofs.Walks.{walk_none, walk_more, walk_ended, walk_full}
use Rattle.stub_library.proofs.declared.Declared.meet_all.Goals as goal

pub loop-done-init : goal.loop-done-init
loop-done-init c =
    let t = c.args.text.now in
    let first = ap texts_of (c.in_ok-push.ensures.items ∙ ap (λ l. l ++ c.args.text ∷ []) c.new-level.ensures.items) in
    walk_none c.args.self.now.spelled.now.program.now c.args.self.now.library.now t c.args.met.now (is_seen c.insert.new.self) (texts_of c.push.new.self.items)
    (λ u e. subst (λ xs. In u xs) (sym first) (inl (seen_first t u _ _ (c.in_ok-insert.ensures.updates.0 (record c.args.text { now = u })) (ap (list_any (λ v. same_text u v.now)) c.new-seen.ensures.empty) e)))
    first

pub loop-done-preserved : goal.loop-done-preserved
loop-done-preserved c =
    let p = c.args.self.now.spelled.now.program.now in
    let l = c.args.self.now.library.now in
    let same = c.as_slice-here.ensures.value in
    let lt = c.loop-done-test.true in
    walk_more p l c.args.text.now c.args.met.now c.loop-done.met c.meet_level.new.met (is_seen c.loop-done.seen) (is_seen c.meet_level.new.seen) (texts_of c.loop-done.level.items) (texts_of c.meet_level.new.next.items) c.loop-done.done
    c.loop-done.invariant (omega (arith, lt, c.len-done-end.ensures))
    (subst (λ us. Meets p (λ n q. list_all (local_clear l n q) (texts_of us)) c.loop-done.met c.meet_level.new.met) same c.in_ok-meet_level.ensures.meets)
    (subst (λ us. Adds (flat_map (above_of l) (texts_of us)) (is_seen c.loop-done.seen) (is_seen c.meet_level.new.seen) [] (texts_of c.meet_level.new.next.items)) same
    (subst (λ us. Adds (flat_map (above_of l) (texts_of c.as_slice-here.result.now)) (is_seen c.loop-done.seen) (is_seen c.meet_level.new.seen) (texts_of us) (texts_of c.meet_level.new.next.items)) c.new-next.ensures.items c.in_ok-meet_level.ensures.adds))

pub returns-then-is_done : goal.returns-then-is_done
returns-then-is_done c = walk_ended c.args.self.now.spelled.now.program.now c.args.self.now.library.now c.args.text.now c.args.met.now c.loop-done.met (is_seen c.loop-done.seen) (texts_of c.loop-done.level.items) c.loop-done.done c.loop-done.invariant
    (ap texts_of (sym c.as_slice-here.ensures.value ∙ c.is_done.ensures c.if-is_done.true))

pub returns : goal.returns
returns c =
    let le = c.loop-done-test.false in
    walk_full c.args.self.now.spelled.now.program.now c.args.self.now.library.now c.args.text.now c.args.met.now c.loop-done.met (is_seen c.loop-done.seen) (texts_of c.loop-done.level.items) c.loop-done.done c.loop-done.invariant
    (omega (arith, le, c.len-done-end.ensures))
