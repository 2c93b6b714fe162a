use Rattle.std.proofs.Common.{◌≡◌, ◌↔◌, Bool, true, sym, subst}
use Rattle.type_facts.specs.Facts.{IsCanonical}
use Rattle.type_facts.proofs.Analysing.{canonical_entry, entry_in, primitive_canonical}
use Rattle.type_facts.proofs.types.Types.is_list_canonical.Goals as goal

pub bounds-as_slice-id : goal.bounds-as_slice-id
bounds-as_slice-id c = entry_in c.args.resolve.now c.args.self.now c.as_slice.result.now c.args.ty.now c.in-Id.id c.requires.analyzed c.requires.within c.in-Id.is c.as_slice.ensures

pub returns-in-Id : goal.returns-in-Id
returns-in-Id c = canonical_entry c.args.resolve.now c.args.self.now c.as_slice.result.now c.args.ty.now c.in-Id.id _ c.requires.analyzed c.requires.within c.in-Id.is c.as_slice.ensures

pub returns-in_default : goal.returns-in_default
returns-in_default c =
    subst (λ (b : Bool). (b ≡ true) ↔ IsCanonical c.args.resolve.now.types c.args.ty.now) (sym c.is_number.ensures) (primitive_canonical c.args.resolve.now.types c.args.ty.now c.in_default.not-Id)
