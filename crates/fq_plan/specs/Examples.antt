-- Worked examples: what plans over files come to, from the plan's text and the files' bytes to the output's bytes.
use Rattle.std.specs.Prelude.{◌≡◌, ℕ, ◌==◌, Bool, true, false, pos, List, [], ◌∷◌, ◌++◌, map, replicate, codes, Some, None, Ok, Err, if◌then◌else◌}
use Rattle.fq_column.specs.declared.faults.StepFault.TheVariants.{NoSuchColumn, DoubleName, NotBool, NoColumn, NoSuchSource}
use Rattle.fq_column.specs.declared.cells.Kind.TheVariants.{Whole}
use Rattle.fq_column.specs.Frame.{Fields}
use Rattle.fq_column.specs.Stream.{rename_fault}
use Rattle.fq_csv.specs.Printed.{printed_in}
use Rattle.fq_plan.specs.Answer.{Answer, answer, prints, faults, refused, no_plan}
use Rattle.fq_language.specs.Judged.{refused_at}
use Rattle.fq_run.specs.Run.{start_refusal, trace_of}
use Rattle.fq_expr.specs.Expression.{binary, column, filter_by, whole}
use Rattle.fq_expr.specs.declared.expressions.Binary.TheVariants.{Gt}
use Rattle.fq_language.specs.Plan.{PlanStep, file_streams, group_by, row_wise}
use Rattle.fq_ops.specs.Aggregate.{over}
use Rattle.fq_ops.specs.declared.aggregates.Function.TheVariants.{Sum}
use Rattle.fq_plan.specs.Needed.{needed_columns}
use Rattle.fq_run.specs.Sources.{scan_fault}
use Rattle.fq_language.specs.Spelling.{read_as_plan}
use Rattle.fq_plan.specs.Tail.{all_items, outcome_of_taken}
use Rattle.fq_language.specs.declared.faults.PlanFault.TheVariants.{Json, Shape}
use Rattle.fq_language.specs.declared.faults.Place.TheVariants.{Source, Step}
use Rattle.fq_run.specs.declared.faults.Fault.TheVariants.{Inputs, Setting, Header, Width, BadCell, Overflow, RollRange, SumRange}

-- a JSON text that was written with single quotes
abbrev pub json : List ℕ → List ℕ
json text = map (λ c. if c == 39 then 34 else c) text

-- a plan of sources and steps
abbrev pub plan : List ℕ → List ℕ → List ℕ
plan sources steps = json (codes "{'version':1,'sources':[" ++ sources ++ codes "],'steps':[" ++ steps ++ codes "]}")

-- a source of so many files
abbrev pub source : List ℕ → List ℕ → List ℕ
source files columns = codes "{'files':" ++ files ++ codes ",'columns':[" ++ columns ++ codes "]}"

-- plans of one source of one file, of one source of two files, and of two sources of one file each
abbrev pub one_file : List ℕ → List ℕ → List ℕ
one_file columns steps = plan (source (codes "1") columns) steps

abbrev pub two_files : List ℕ → List ℕ → List ℕ
two_files columns steps = plan (source (codes "2") columns) steps

abbrev pub two_sources : List ℕ → List ℕ → List ℕ → List ℕ
two_sources right main steps = plan (source (codes "1") right ++ codes "," ++ source (codes "1") main) steps

-- columns
abbrev pub id_v : List ℕ
id_v = codes "['id','int'],['v','int']"

abbrev pub a_b : List ℕ
a_b = codes "['a','int'],['b','int']"

abbrev pub g_v : List ℕ
g_v = codes "['g','int'],['v','int']"

abbrev pub k_v : List ℕ
k_v = codes "['k','int'],['v','int']"

abbrev pub k_w : List ℕ
k_w = codes "['k','int'],['w','text']"

abbrev pub i_v : List ℕ
i_v = codes "['i','int'],['v','int']"

-- a filter
abbrev pub over_ten : List ℕ
over_ten = one_file id_v (codes "{'filter':['gt',{'col':'v'},10]}")

abbrev pub FilteredRows : Type 0
FilteredRows = answer over_ten (codes "id,v\n1,5\n2,\n3,20\n" ∷ []) ≡ prints (codes "id,v\n3,20\n")

-- no rows, and no header
abbrev pub EmptyFiles : Type 0
EmptyFiles = (answer over_ten (codes "id,v\n" ∷ []) ≡ prints (codes "id,v\n"))
    × (answer (one_file id_v (codes "{'group_by':{'keys':['id'],'aggs':[['n','len']]}}")) (codes "id,v\n" ∷ []) ≡ prints (codes "id,n\n"))
    × (answer over_ten ([] ∷ []) ≡ faults (Header 0))

-- the files of a source in argument order
abbrev pub FilesInOrder : Type 0
FilesInOrder = answer (two_files (codes "['v','int']") []) (codes "v\n1\n2\n3\n" ∷ codes "v\n4\n5\n" ∷ []) ≡ prints (codes "v\n1\n2\n3\n4\n5\n")

-- null and Kleene's logic
abbrev pub LogicWithNulls : Type 0
LogicWithNulls = answer (one_file (codes "['x','int']") (codes "{'select':[['a',['and',{'null':'bool'},false]],['b',['or',{'null':'bool'},true]],['c',['not',{'null':'bool'}]],['d',['and',{'null':'bool'},true]],['e',['eq',{'null':'int'},{'null':'int'}]],['f',['eq_missing',{'null':'int'},{'null':'int'}]],['g',['fill_null',{'null':'int'},7]]]}"))
    (codes "x\n1\n" ∷ []) ≡ prints (codes "a,b,c,d,e,f,g\nfalse,true,,,,true,7\n")

-- the fault of the earliest row takes precedence
abbrev pub two_sums : List ℕ
two_sums = one_file a_b (codes "{'with_columns':[['p',['add',{'col':'a'},1]]]},{'with_columns':[['q',['add',{'col':'b'},1]]]}")

abbrev pub EarliestRow : Type 0
EarliestRow = (answer two_sums (codes "a,b\n0,9223372036854775807\n0,0\n9223372036854775807,0\n" ∷ []) ≡ faults (Overflow 1 0))
    × (answer two_sums (codes "a,b\n9223372036854775807,0\n0,0\n0,9223372036854775807\n" ∷ []) ≡ faults (Overflow 0 0))

-- a group's sum is judged as a whole
abbrev pub sums_by_group : List ℕ
sums_by_group = two_files g_v (codes "{'group_by':{'keys':['g'],'aggs':[['s','sum','v']]}}")

abbrev pub GroupSums : Type 0
GroupSums = let up = codes "g,v\n1,9223372036854775807\n1,1\n" in let down = codes "g,v\n1,-1\n" in let none = codes "g,v\n" in
    (answer sums_by_group (up ∷ down ∷ []) ≡ prints (codes "g,s\n1,9223372036854775807\n"))
    × (answer sums_by_group (up ∷ none ∷ []) ≡ faults (SumRange 0 0))
    × (answer (two_files g_v (codes "{'group_by':{'keys':['g'],'aggs':[['n','len'],['s','sum','v']]}}")) (up ∷ none ∷ []) ≡ faults (SumRange 0 1))
    × (answer sums_by_group (down ∷ up ∷ []) ≡ prints (codes "g,s\n1,9223372036854775807\n"))

-- groups in order of first appearance
abbrev pub counts_and_sums : List ℕ
counts_and_sums = codes "{'group_by':{'keys':['k'],'aggs':[['n','len'],['s','sum','v']]}}"

abbrev pub GroupOrder : Type 0
GroupOrder = let columns = codes "['k','text'],['v','int']" in let files = codes "k,v\nb,1\n,2\na,3\n,10\nb,5\n" ∷ [] in
    (answer (one_file columns counts_and_sums) files ≡ prints (codes "k,n,s\nb,2,6\n,2,12\na,1,3\n"))
    × (answer (one_file columns (counts_and_sums ++ codes ",{'filter':['gt',{'col':'s'},6]}")) files ≡ prints (codes "k,n,s\n,2,12\n"))

-- every aggregate of a group without values
abbrev pub AggregatesOfNulls : Type 0
AggregatesOfNulls = answer (one_file g_v (codes "{'group_by':{'keys':['g'],'aggs':[['s','sum','v'],['lo','min','v'],['hi','max','v'],['c','count','v'],['n','len'],['f','first','v'],['l','last','v'],['u','n_unique','v']]}}"))
    (codes "g,v\n1,\n1,\n" ∷ []) ≡ prints (codes "g,s,lo,hi,c,n,f,l,u\n1,0,,,0,2,,,1\n")

-- joins
abbrev pub join_on_k : List ℕ → List ℕ
join_on_k how = codes "{'join':{'source':0,'on':['k'],'how':'" ++ how ++ codes "'}}"

abbrev pub JoinedRows : Type 0
JoinedRows = let files = codes "k,w\n1,a\n,b\n1,c\n" ∷ codes "k,v\n2,10\n1,20\n,30\n" ∷ [] in
    (answer (two_sources k_w k_v (join_on_k (codes "left"))) files ≡ prints (codes "k,v,w\n2,10,\n1,20,a\n1,20,c\n,30,\n"))
    × (answer (two_sources k_w k_v (join_on_k (codes "inner"))) files ≡ prints (codes "k,v,w\n1,20,a\n1,20,c\n"))

-- joins of version 2
abbrev pub joined_on_k : List ℕ → List ℕ
joined_on_k members = codes "{'version':2,'sources':[" ++ source (codes "1") k_w ++ codes "," ++ source (codes "1") k_v ++ codes "],'steps':[{'join':{'source':0,'on':['k']," ++ members ++ codes "}}]}"

abbrev pub NewJoins : Type 0
NewJoins = let files = codes "k,w\n1,a\n,b\n1,c\n" ∷ codes "k,v\n2,10\n1,20\n,30\n" ∷ [] in
    (answer (json (joined_on_k (codes "'how':'semi'"))) files ≡ prints (codes "k,v\n1,20\n"))
    × (answer (json (joined_on_k (codes "'how':'anti'"))) files ≡ prints (codes "k,v\n2,10\n,30\n"))
    × (answer (json (joined_on_k (codes "'how':'anti','nulls_equal':false"))) files ≡ prints (codes "k,v\n2,10\n,30\n"))
    × (answer (json (joined_on_k (codes "'how':'inner','nulls_equal':true"))) files ≡ prints (codes "k,v,w\n1,20,a\n1,20,c\n,30,b\n"))
    × (answer (json (joined_on_k (codes "'how':'left','nulls_equal':true"))) files ≡ prints (codes "k,v,w\n2,10,\n1,20,a\n1,20,c\n,30,b\n"))
    × (answer (json (joined_on_k (codes "'how':'semi','nulls_equal':true"))) files ≡ prints (codes "k,v\n1,20\n,30\n"))
    × (answer (json (joined_on_k (codes "'how':'anti','nulls_equal':true"))) files ≡ prints (codes "k,v\n2,10\n"))
    × (answer (json (joined_on_k (codes "'how':'anti','nulls_equal':1"))) [] ≡ no_plan Shape)
    × (answer (json (joined_on_k (codes "'how':'right'"))) [] ≡ no_plan Shape)
    × (answer (two_sources k_w k_v (join_on_k (codes "semi"))) [] ≡ no_plan Shape)
    × (answer (two_sources k_w k_v (codes "{'join':{'source':0,'on':['k'],'how':'inner','nulls_equal':false}}")) [] ≡ no_plan Shape)

abbrev pub SuffixedNames : Type 0
SuffixedNames = (answer (two_sources k_v k_v (join_on_k (codes "inner"))) (codes "k,v\n1,7\n" ∷ codes "k,v\n1,5\n" ∷ []) ≡ prints (codes "k,v,v_right\n1,5,7\n"))
    × (answer (two_sources k_v (k_v ++ codes ",['v_right','int']") (join_on_k (codes "inner"))) [] ≡ refused (refused_at (Step 0) DoubleName))

-- rolling sums
abbrev pub RollingSums : Type 0
RollingSums = (answer (two_files i_v (codes "{'rolling_sum':{'column':'v','window':3,'min_samples':2,'name':'r'}}")) (codes "i,v\n1,1\n2,\n" ∷ codes "i,v\n3,4\n4,\n5,\n6,7\n" ∷ [])
    ≡ prints (codes "i,v,r\n1,1,\n2,,\n3,4,5\n4,,\n5,,\n6,7,\n"))
    × (answer (one_file i_v (codes "{'rolling_sum':{'column':'v','window':2,'name':'r'}}")) (codes "i,v\n1,9223372036854775807\n2,1\n" ∷ []) ≡ faults (RollRange 0))
    × (answer (one_file i_v (codes "{'rolling_sum':{'column':'v','window':3,'min_samples':3,'name':'r'}}")) (codes "i,v\n1,9223372036854775807\n2,\n3,1\n" ∷ [])
    ≡ prints (codes "i,v,r\n1,9223372036854775807,\n2,,\n3,1,\n"))

-- cells
abbrev pub WholeNumbers : Type 0
WholeNumbers = let x = one_file (codes "['x','int']") [] in
    (answer x (codes "x\n9223372036854775808\n" ∷ []) ≡ faults (BadCell 0 1 0))
    × (answer x (codes "x\n+9223372036854775807\n-0\n007\n" ∷ []) ≡ prints (codes "x\n9223372036854775807\n0\n7\n"))

abbrev pub BadRows : Type 0
BadRows = (answer (two_files a_b []) (codes "a,b\n1,2\nx,y\n" ∷ codes "a,b\nx\n" ∷ []) ≡ faults (BadCell 0 2 0))
    × (answer (one_file a_b []) (codes "a,b\nx\n" ∷ []) ≡ faults (Width 0 1))

abbrev pub quoted_texts : List ℕ
quoted_texts = codes "t\n\"\"\n\"a,b\"\n\"say \"\"hi\"\"\"\n\"x\ny\"\n"

abbrev pub Texts : Type 0
Texts = answer (one_file (codes "['t','text']") []) (quoted_texts ∷ []) ≡ prints quoted_texts

abbrev pub TruthValues : Type 0
TruthValues = answer (one_file (codes "['id','int'],['ok','bool']") []) (codes "id,ok\r\n1,TRUE\r\n2,False" ∷ []) ≡ prints (codes "id,ok\n1,true\n2,false\n")

-- division
abbrev pub quotient : List ℕ
quotient = codes "['q',['floordiv',{'col':'a'},{'col':'b'}]]"

abbrev pub remainder : List ℕ
remainder = codes "['r',['mod',{'col':'a'},{'col':'b'}]]"

abbrev pub with_columns : List ℕ → List ℕ
with_columns items = codes "{'with_columns':[" ++ items ++ codes "]}"

abbrev pub Division : Type 0
Division = let both = one_file a_b (with_columns (quotient ++ codes "," ++ remainder)) in
    (answer both (codes "a,b\n-7,2\n7,0\n7,-2\n-9223372036854775808,1\n" ∷ []) ≡ prints (codes "a,b,q,r\n-7,2,-4,1\n7,0,,\n7,-2,-4,-1\n-9223372036854775808,1,-9223372036854775808,0\n"))
    × (answer both (codes "a,b\n-9223372036854775808,-1\n" ∷ []) ≡ faults (Overflow 0 0))
    × (answer (one_file a_b (with_columns remainder)) (codes "a,b\n-9223372036854775808,-1\n" ∷ []) ≡ prints (codes "a,b,r\n-9223372036854775808,-1,0\n"))

-- a file's fault and a step's: that of the earlier row
abbrev pub FileOrStep : Type 0
FileOrStep = let p = one_file (codes "['a','int']") (with_columns (codes "['p',['add',{'col':'a'},1]]")) in
    (answer p (codes "a\n9223372036854775807\nx\n" ∷ []) ≡ faults (Overflow 0 0))
    × (answer p (codes "a\nx\n9223372036854775807\n" ∷ []) ≡ faults (BadCell 0 1 0))

-- a fault of a source that no step uses
abbrev pub UnusedSource : Type 0
UnusedSource = answer (two_sources (codes "['k','int']") (codes "['k','int']") []) (codes "k\nx\n" ∷ codes "k\n1\n" ∷ []) ≡ faults (BadCell 0 1 0)

-- texts that spell no plan
abbrev pub NoPlans : Type 0
NoPlans = let v = codes "['v','int']" in (answer (codes "[]") [] ≡ no_plan Shape)
    × (answer (codes "{") [] ≡ no_plan Json)
    × (answer (255 ∷ []) [] ≡ no_plan Json)
    × (answer (replicate 200 91 ++ replicate 200 93) [] ≡ no_plan Json)
    × (answer (one_file v (codes "{'sort':'v'}")) [] ≡ no_plan Shape)
    × (answer (json (codes "{'version':3,'sources':[{'files':1,'columns':[['v','int']]}],'steps':[]}")) [] ≡ no_plan Shape)
    × (answer (one_file v (codes "{'filter':['gt',{'col':'v'},1.5]}")) [] ≡ no_plan Shape)
    × (answer (plan (source (codes "8") [] ++ codes "," ++ source (codes "9") []) []) [] ≡ no_plan Shape)
    × (answer (json (codes "{'version':1,'sources':[{'files':1,'columns':[['v','int']]}],'steps':[],'more':0}")) [] ≡ no_plan Shape)
    × (answer (json (codes "{'version':1,'sources':[],'steps':[]}")) [] ≡ no_plan Shape)

-- texts that are null, in version 2
abbrev pub with_nulls : List ℕ → List ℕ → List ℕ
with_nulls columns texts = codes "{'files':1,'columns':[" ++ columns ++ codes "],'null_values':[" ++ texts ++ codes "]}"

abbrev pub plan_two : List ℕ → List ℕ → List ℕ
plan_two sources steps = json (codes "{'version':2,'sources':[" ++ sources ++ codes "],'steps':[" ++ steps ++ codes "]}")

abbrev pub NullTexts : Type 0
NullTexts = let columns = codes "['k','text'],['v','int']" in let file = codes "k,v\nNA,1\na,-\n-,NA\nna,2\n" in let k = codes "['k','text']" in
    (answer (plan_two (with_nulls columns (codes "'NA','-'")) []) (file ∷ []) ≡ prints (codes "k,v\n,1\na,\n,\nna,2\n"))
    × (answer (one_file columns []) (file ∷ []) ≡ faults (BadCell 0 2 1))
    × (answer (plan_two (with_nulls (codes "['v','int']") (codes "'1'")) []) (codes "v\n1\n01\n" ∷ []) ≡ prints (codes "v\n\"\"\n1\n"))
    × (answer (plan_two (with_nulls k (codes "'b'") ++ codes "," ++ source (codes "1") k) (join_on_k (codes "inner"))) (codes "k\nb\n" ∷ codes "k\nb\n" ∷ []) ≡ prints (codes "k\n"))
    × (answer (plan (with_nulls k []) []) [] ≡ no_plan Shape)
    × (answer (plan_two (with_nulls k (codes "'','','','','','','','','','','','','','','',''")) []) (codes "k\n" ∷ []) ≡ prints (codes "k\n"))
    × (answer (plan_two (with_nulls k (codes "'','','','','','','','','','','','','','','','',''")) []) [] ≡ no_plan Shape)

-- a member that is given twice has its last value
abbrev pub DoubleMembers : Type 0
DoubleMembers = (answer (json (codes "{'version':1,'sources':[{'files':1,'columns':[['v','int']]}],'steps':[],'version':3}")) [] ≡ no_plan Shape)
    × (answer (json (codes "{'version':3,'steps':[],'sources':[{'columns':[['v','int']],'files':1}],'version':1}")) (codes "v\n" ∷ []) ≡ prints (codes "v\n"))

-- plans that the check refuses
abbrev pub RefusedPlans : Type 0
RefusedPlans = (answer (one_file id_v (codes "{'filter':['gt',{'col':'w'},10]}")) [] ≡ refused (refused_at (Step 0) NoSuchColumn))
    × (answer (one_file id_v (codes "{'filter':{'col':'v'}}")) [] ≡ refused (refused_at (Step 0) NotBool))
    × (answer (one_file id_v (codes "{'join':{'how':'inner','source':0,'on':['id']}}")) [] ≡ refused (refused_at (Step 0) NoSuchSource))
    × (answer (one_file [] []) [] ≡ refused (refused_at (Source 0) NoColumn))

-- runs that do not start
abbrev pub RefusedStarts : Type 0
RefusedStarts = (start_refusal 2 1 0 2 ≡ Some (Inputs 2 1))
    × (start_refusal 2 2 0 2 ≡ Some Setting)
    × (start_refusal 2 2 65537 2 ≡ Some Setting)
    × (start_refusal 2 2 1024 17 ≡ Some Setting)
    × (start_refusal 2 2 1024 2 ≡ None)

-- what a run's tail makes of the files' items, at a batch size
abbrev pub answer_by_items : ℕ → List ℕ → List (List ℕ) → Answer
answer_by_items batch_size text files = elim (read_as_plan text) [
  | Err e ↦ no_plan e
  | Ok p ↦ elim (outcome_of_taken p (all_items p batch_size (map (rename_fault scan_fault) (file_streams p files)))) [ Err f ↦ faults f | Ok frame ↦ prints (printed_in p.notations frame) ]
]

abbrev pub ItemsAtAnySize : Type 0
ItemsAtAnySize = (answer_by_items 1 over_ten (codes "id,v\n1,5\n2,\n3,20\n" ∷ []) ≡ prints (codes "id,v\n3,20\n"))
    × (answer_by_items 1 two_sums (codes "a,b\n0,9223372036854775807\n0,0\n9223372036854775807,0\n" ∷ []) ≡ faults (Overflow 1 0))
    × (answer_by_items 8 two_sums (codes "a,b\n0,9223372036854775807\n0,0\n9223372036854775807,0\n" ∷ []) ≡ faults (Overflow 1 0))
    × (answer_by_items 2 (two_sources k_w k_v (join_on_k (codes "left"))) (codes "k,w\n1,a\n,b\n1,c\n" ∷ codes "k,v\n2,10\n1,20\n,30\n" ∷ []) ≡ prints (codes "k,v,w\n2,10,\n1,20,a\n1,20,c\n,30,\n"))

-- the batches of each file, in order
abbrev pub batches : ℕ → List ℕ → List (List ℕ) → List (ℕ × ℕ)
batches size text files = elim (read_as_plan text) [ Err e ↦ [] | Ok p ↦ trace_of size (file_streams p files) ]

abbrev pub Traces : Type 0
Traces = (batches 1024 over_ten (codes "id,v\n" ∷ []) ≡ [])
    × (batches 2 (two_files (codes "['v','int']") []) (codes "v\n1\n2\n3\n" ∷ codes "v\n4\n5\n" ∷ []) ≡ (0, 0) ∷ (0, 1) ∷ (1, 0) ∷ [])
    × (batches 1024 (two_sources k_w k_v (join_on_k (codes "left"))) (codes "k,w\n1,a\n,b\n1,c\n" ∷ codes "k,v\n2,10\n1,20\n,30\n" ∷ []) ≡ (0, 0) ∷ (1, 0) ∷ [])

-- the columns of its main source that a plan needs: k and w, by which it groups, and v, which a filter reads, but not x
abbrev pub NeededColumns : Type 0
NeededColumns = let name_of : ℕ → List ℕ = λ c. c ∷ [] in
    let fields : Fields = map (λ c. (name_of c, Whole)) (codes "kvwx") in
    let filtered : PlanStep = row_wise (filter_by (binary Gt (column (codes "v")) (whole (pos 10)))) in
    let grouped : PlanStep = group_by (codes "k" ∷ []) ((codes "s", over Sum (codes "w")) ∷ []) in
    let needed : List PlanStep → List Bool = λ steps. needed_columns (record { sources = record { files = 1; fields = fields; nulls = []; notations = []; projection = [] } ∷ []; steps = steps; notations = [] }) in
    (needed (filtered ∷ grouped ∷ []) ≡ true ∷ true ∷ true ∷ false ∷ [])
    × (needed (grouped ∷ []) ≡ true ∷ false ∷ true ∷ false ∷ [])
    × (needed (filtered ∷ []) ≡ true ∷ true ∷ true ∷ true ∷ [])
