-- The certificate: what the bytes mean that `axes` prints for an accepted job text. m and Q = P / D are those of a ledger that is fed the calls of
-- the job's run alone, S is the exact table of the job's readings, and e the shift that is printed (document 02, W5); the bounds are stated in
-- ledger/specs/Near, over whole numbers. Axes and channels count from 0 here, and from 1 in print.
use Rattle.std.specs.Prelude.{ℕ, suc, ◌*◌, ◌^◌, ◌<◌, ◌≡◌, List, [], ◌∷◌, ◌++◌, map, ℤ, pos, length}
use Rattle.integer.specs.Matrix.{Matrix, Same, diagonal, product, transpose}
use Rattle.integer.specs.Tabulate.{tabulate}
use Rattle.job.specs.Job.{Job, accepted, job_of}
use Rattle.job.specs.Reply.{printed_of}
use Rattle.job_table.specs.JobTable.{samples_of}
use Rattle.ledger.specs.Ledger.{State, loaded, ledger}
use Rattle.ledger.specs.Near.{DirectionNear, RowNear}
use Rattle.record.specs.declared.run.Outcome.{Outcome}
use Rattle.report.specs.AxisOrder.{ListsAxes}
use Rattle.report.specs.Report.{load_for, report_of}
use Rattle.run.specs.Word.{outcome_word}
use Rattle.rounding.specs.Rounding.{rnd}
use Rattle.run.specs.Calls.{calls_of}
use Rattle.scatter.specs.Table.{S}
use Rattle.text.specs.Line.{number_line, word_line}
use Rattle.text.specs.Lines.{lines}

pub record JobCertificate (text : List ℕ) (j : Job) : Type 0 where
  -- There are numbers e, sweeps and an outcome; for axis i a_ii, r_i and a direction; for each of n lines its axis; and a ledger's state
  pub e : ℕ
  pub sweeps : ℕ
  pub outcome : Outcome
  pub entry : ℕ → ℤ
  pub error : ℕ → ℕ
  pub direction : Matrix
  pub axis_on : ℕ → ℕ
  pub state : State
  -- such that these bytes are printed: `R` n k e sweeps m outcome, then n lines, for the axis i of each `A` i a_ii r_i and the n numbers of the
  -- direction
  pub printed : printed_of report_of text ≡
      word_line 82 (map pos (j.n ∷ length j.dilutions ∷ e ∷ sweeps ∷ state.m ∷ [])) (outcome_word outcome) ++
      lines (λ p. number_line 65 (pos (suc (axis_on p)) ∷ entry (axis_on p) ∷ pos (error (axis_on p)) ∷ tabulate j.n (direction (axis_on p)))) j.n
  -- Each axis has one line, and the lines stand by a_ii, largest first, equal ones in channel order (document 02, W3)
  pub listed : ListsAxes j.n entry axis_on
  -- The state is the ledger's after the run's calls, with that many sweeps
  pub fed : ledger (calls_of (load_for j) j.tolerance sweeps) ≡ loaded state
  -- It has the table of the job's samples: n by n entries rnd(S_ij / 2^e), S and e
  pub size : state.n ≡ j.n
  pub table : Same j.n state.A (λ i k. rnd (S (samples_of j) i k) (2 ^ e))
  pub scatter : state.S ≡ S (samples_of j)
  pub shift : state.e ≡ e
  -- The rows of Q have length 1, and any two are at right angles: P_i-as-P_k is D² for i = k, else 0, and D is not 0
  pub positive : 0 < state.D
  pub orthogonal : Same j.n (product j.n state.P (transpose state.P)) (diagonal (pos (state.D * state.D)))
  -- Row i of Q is an axis of S / 2^e within the error: |Q_i S / 2^e − a_ii Q_i| ≤ r_i, with a_ii and r_i in units of 1/1024
  pub rows-near : (i : ℕ) → i < j.n → RowNear j.n state.D state.P (S (samples_of j)) e i (entry i) (error i)
  -- The direction of axis i is within 2m units of 2^−30 of row i of Q
  pub directions-near : (i : ℕ) → i < j.n → DirectionNear j.n state.m state.D state.P direction i

abbrev pub Certificate : Type 0
Certificate = (text : List ℕ) (j : Job) → job_of text ≡ accepted j → JobCertificate text j
