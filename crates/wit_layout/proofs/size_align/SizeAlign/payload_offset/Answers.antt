use Rattle.wit_layout.proofs.size_align.SizeAlign.payload_offset.Goals as goal

pub returns-clause-alias : goal.returns-clause-alias
returns-clause-alias c = λ types entry filled is alias. filled.alias_payloads c.args.id.0 c.layout.result.now entry c.layout.ensures is alias

pub returns-clause-own : goal.returns-clause-own
returns-clause-own c = λ types entry filled is own. filled.payloads c.args.id.0 c.layout.result.now entry c.layout.ensures is own
