use Rattle.job_answers.proofs.Steps.{courses_agree}
use Rattle.job_answers.proofs.courses.courses_agree_stands.Goals as goal

pub returns : goal.returns
returns c = courses_agree
