use mathlib.Core.Path.{refl}
use Rattle.text.specs.laws.LineLaws.{puts-as}
use Rattle.text.specs.laws.Decimal.{one-digit}
use Rattle.text.proofs.put_digit.Goals as goal

pub returns : goal.returns
returns c = puts-as (one-digit c.args.n c.requires.0) (record { bytes = refl; place = refl })
