use Rattle.std.proofs.Common.{◌∙◌, ◌^◌, ap, ap₂}
use Rattle.wit_layout.specs.Extent.{Extent, record_of_grain}
use Rattle.wit_layout.proofs.RecordSteps.{ends_in_room, record4, record8}
use Rattle.wit_layout.proofs.size_align.SizeAlign.record_of.Goals as goal

pub returns-clause-size : goal.returns-clause-size
returns-clause-size c = λ table filled.
    let all = c.members-all.ensures in
    let four = c.size.ensures.four ∙ c.aligned.ensures.four ∙ ap₂ (λ (g : Extent) last. (record_of_grain g.grain last).bytes) all.greatest4 all.end4 ∙ ap (λ (e : Extent). e.bytes) (record4 c.args.self.now c.args.types.now c.requires.sizes table filled) in
    let eight = c.size.ensures.eight ∙ c.aligned.ensures.eight ∙ ap₂ (λ (g : Extent) last. (record_of_grain g.grain last).bytes) all.greatest8 all.end8 ∙ ap (λ (e : Extent). e.bytes) (record8 c.args.self.now c.args.types.now c.requires.sizes table filled) in
    (four, eight)

pub returns-clause-align : goal.returns-clause-align
returns-clause-align c = λ table filled.
    let all = c.members-all.ensures in
    let four = c.alignment.ensures.four ∙ ap (λ (g : Extent). 2 ^ g.grain) all.greatest4 ∙ ap (λ (e : Extent). 2 ^ e.grain) (record4 c.args.self.now c.args.types.now c.requires.sizes table filled) in
    let eight = c.alignment.ensures.eight ∙ ap (λ (g : Extent). 2 ^ g.grain) all.greatest8 ∙ ap (λ (e : Extent). 2 ^ e.grain) (record8 c.args.self.now c.args.types.now c.requires.sizes table filled) in
    (four, eight)

pub members-all-requires-clause-room : goal.members-all-requires-clause-room
members-all-requires-clause-room c = ends_in_room c.args.self.now c.args.types.now c.requires.room
