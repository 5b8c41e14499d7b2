-- Laws of what Answers.antt defines.
use Rattle.std.specs.Prelude.{◌≡◌, refl, true, Ok, Err}
use Rattle.std.proofs.lemmas.Bool.{false≢true}
use Rattle.site.specs.Answers.{Answer, is_done, number_of}

pub done-number : (answer : Answer) → is_done answer ≡ true → number_of answer ≡ 0
done-number (Ok sent) e = refl
done-number (Err refusal) e = absurd (false≢true e)
