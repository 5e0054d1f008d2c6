-- `resolver_parts::joined` meets its contract.
use Rattle.resolver_parts.proofs.ResultParts.{joined_short, joined_long}
use Rattle.resolver_parts.proofs.joined.Goals as goal

pub returns-then-old-new-lt2 : goal.returns-then-old-new-lt2
returns-then-old-new-lt2 c = λ base ref ts us p q. joined_short _ _ base ref ts us p q c.if-old-new-lt2.true

pub returns : goal.returns
returns c = λ base ref ts us p q. joined_long _ _ base ref ts us p q c.if-old-new-lt2.false
