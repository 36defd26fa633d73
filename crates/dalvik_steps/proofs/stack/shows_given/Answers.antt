use Rattle.std.proofs.Common.{◌∙◌, length}
use Rattle.std.specs.Option.{option_map}
use Rattle.dalvik_lookups.specs.Views.{type_text}
use Rattle.dalvik_state.specs.Views.{names_in, value_of, world_of}
use Rattle.dalvik_steps.proofs.Handing.{drafts_after, drawn_of, given_after, given_same, room_given, shows_after, space_given}
use Rattle.dalvik_steps.proofs.stack.shows_given.Goals as goal

pub returns-clause-ok : goal.returns-clause-ok
returns-clause-ok c = λ r i fine.
    let l = c.args.tables.now.lookups in
    let n = names_in l in
    let g = c.args.gifts in
    let old = c.args.world.now in
    let mid = c.reserve.new.world in
    let same = c.reserve.ensures.same in
    let count = length g.things.items in
    let kind = type_text l.types c.args.kind in
    let room = c.in_ok-reserve.ensures.room in
    let a = given_after l g old mid c.give.new.world same (c.give.ensures.given l (given_same l g old mid same i) (room_given mid count room) (space_given mid count c.in_ok-reserve.ensures.space)) in
    let drafts = drafts_after n g old (world_of n c.give.new.world) kind (option_map (value_of n) c.args.value) c.in_ok-draft.draft a.world (c.in_ok-draft.ensures (drawn_of l r old g c.args.value i fine)) in
    shows_after l g kind c.args.value old c.give.new.world c.show_option.new.world c.show_option.result a (c.show_option.ensures.shown l kind (option_map (value_of n) c.args.value) a.sound (c.give.ensures.room 1 room) drafts)
